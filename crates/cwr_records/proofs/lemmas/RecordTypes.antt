-- Looking a code up in a table of record types.
use Rattle.std.proofs.Common.{◌≡◌, ℕ, ◌+◌, ◌<◌, false, List, [], length, drop, get_or, bytes_eq, refl, IsTrue, ◌↔◌, Bool}
use Rattle.std.proofs.lemmas.List.{drop_more}
use Rattle.std.proofs.lemmas.Bool.Decides.{same_from_decides}
use Rattle.std.proofs.lemmas.Slice.Eq.{bytes_eq-Decides}
use Rattle.cwr_records.specs.declared.record.RecordType.{RecordType}
use Rattle.cwr_records.specs.declared.record.RecordType.TheVariants.{Hdr}
use Rattle.cwr_records.specs.Records.{first_type_of}

-- what an index past the end of a table gives
abbrev pub past_end : List ℕ × RecordType
past_end = ([], Hdr)

-- where the next letters are others, the first is among the rest
pub first_of-other : (types : List (List ℕ × RecordType)) (i : ℕ) (code : List ℕ) → i < length types → bytes_eq code (get_or types i past_end).0 ≡ false → first_type_of (drop (i + 1) types) code ≡ first_type_of (drop i types) code
first_of-other types i code within other = rw (drop_more types i past_end within, other) refl

-- a test of whether two texts are equal
pub told : (r : Bool) (a b : List ℕ) → (IsTrue r ↔ (a ≡ b)) → bytes_eq a b ≡ r
told r a b h = same_from_decides (bytes_eq a b) r (bytes_eq-Decides a b) h
