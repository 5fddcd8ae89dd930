-- What a file is told to be by its first bytes.
use Rattle.std.proofs.Common.{◌≡◌, ℕ, List, ap, length, min, take, sym, ◌∙◌, arith}
use Rattle.std.proofs.lemmas.List.{take_all, take_min}
use Rattle.sqlite_disk.specs.Disk.{Holds}
use Rattle.sqlite_wal.proofs.FormatLemmas.{part_front}
use Rattle.sqlite_wal.proofs.PartLemmas.{part_held}
use Rattle.society_host.specs.Examined.{HasNoTable}

same_start : (db start : List ℕ) → Holds db 0 start → length start ≡ 105 → take 16 db ≡ take 16 start
same_start db start held len = sym (part_front db 16) ∙ part_held db start 0 0 16 held (omega arith) ∙ part_front start 16

pub bare_from : (db start : List ℕ) → Holds db 0 start → length start ≡ 105 → HasNoTable start → HasNoTable db
bare_from db start held len bare = record {
  long = omega (arith, held.within);
  header = same_start db start held len ∙ bare.header;
  no_sums = λ is. bare.no_sums (sym (held.each 20 (omega arith)) ∙ is);
  leaf = held.each 100 (omega arith) ∙ bare.leaf;
  none_high = held.each 103 (omega arith) ∙ bare.none_high;
  none_low = held.each 104 (omega arith) ∙ bare.none_low;
}

pub bare_to : (db start : List ℕ) → Holds db 0 start → length start ≡ 105 → HasNoTable db → HasNoTable start
bare_to db start held len bare = record {
  long = omega arith;
  header = sym (same_start db start held len) ∙ bare.header;
  no_sums = λ is. bare.no_sums (held.each 20 (omega arith) ∙ is);
  leaf = sym (held.each 100 (omega arith)) ∙ bare.leaf;
  none_high = sym (held.each 103 (omega arith)) ∙ bare.none_high;
  none_low = sym (held.each 104 (omega arith)) ∙ bare.none_low;
}

-- bytes that were read from the front of a file, sixteen or all that it has, are its first
pub front_held : (db start : List ℕ) (len count : ℕ) → Holds db 0 start → length start ≡ count → count ≡ min len 16 → len ≡ length db → start ≡ take 16 db
front_held db start len count held long least all =
    sym (take_all (length start) start (omega arith)) ∙ sym (part_front start (length start)) ∙ sym (part_held db start 0 0 (length start) held (omega arith)) ∙ part_front db (length start)
    ∙ ap (λ (n : ℕ). take n db) (omega (arith, long, least, all)) ∙ take_min 16 db
