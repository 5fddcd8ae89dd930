-- The chain of tests, behind any lines, finds the first sentence that holds.
use Rattle.std.proofs.Common.{◌≡◌, ℕ, Bool, true, false, cond, List, [], ◌∷◌, length, refl, ap}
use Rattle.std.specs.Prelude.{not, ◌&&◌, ◌||◌, Option, Some, None, if◌then◌else◌, ◌==◌, ◌+◌}
use Rattle.std.proofs.lemmas.Slice.Eq.{bytes_eq-Decides}
use Rattle.cwr_records.specs.Lines.{is_blank}
use Rattle.cwr_records.specs.Places.{record_type_in}
use Rattle.cwr_records.specs.Records.{group_header_of}
use Rattle.cwr_files.specs.RecordTypes.{hdr, grh, grt, trl, has_type, is_frame, is_code, is_read, type_of_group}
use Rattle.cwr_files.specs.RightLines.{bears, is_numbered, has_group_counts, has_file_counts}
use Rattle.cwr_files.specs.LinesBefore.{since, is_ended, is_open, open_type, groups_before, transactions_in_group, lines_in_group, next_number, transactions_before}
use Rattle.cwr_files.specs.Sentences.{Sentence, sentence, first_that_holds}
use Rattle.cwr_files.specs.LineFaults.{is_too_large, sequence_at, record_sequence_at, structure_sentences, too_large, outside_groups, wrong_group_id, misplaced_in_group, wrong_sequence, wrong_group_counts, wrong_file_counts, behind_trailer, wrong_type}
use Rattle.cwr_files.specs.Chain.{header_fault, opening_fault, trailer_fault, between_fault, closing_fault, record_fault, group_fault, ended_fault}
use Rattle.cwr_files.specs.FileFault.{fault_at}
use Rattle.cwr_files.proofs.lemmas.LineFacts.{other_type}

-- the fault of a line that is not the first, behind those lines
unfoldable pub later_fault : List (List ℕ) → List ℕ → Option ℕ
later_fault past line =
    if is_ended past then ended_fault line
    else (if is_open past
    then group_fault (groups_before past) (open_type past) (transactions_in_group past) (lines_in_group past) (next_number past) line
    else between_fault (groups_before past) (transactions_before past) (length past) line)

-- the fault of a line behind those lines, its size aside
abbrev pub structure_fault : List ℕ → List (List ℕ) → List ℕ → Option ℕ
structure_fault sender [] line = header_fault sender line
structure_fault sender (nearest ∷ past) line = later_fault (nearest ∷ past) line

-- the fault of a line behind those lines, its size first
abbrev pub chained_fault : List ℕ → List (List ℕ) → ℕ → List ℕ → Option ℕ
chained_fault sender past end line = if is_too_large end line then Some too_large else structure_fault sender past line

-- the tests that the sentences on a later line make
record Tests : Type 0 where
  ended : Bool
  opened : Bool
  is_hdr : Bool
  is_grh : Bool
  is_grt : Bool
  is_trl : Bool
  begins : Bool
  none : Bool
  read : Bool
  numbered : Bool
  group_counted : Bool
  next_id : Bool
  type_coded : Bool
  file_counted : Bool
  blank : Bool
  coded : Bool

-- the tests, one after another
abbrev tests : Bool → Bool → Bool → Bool → Bool → Bool → Bool → Bool → Bool → Bool → Bool → Bool → Bool → Bool → Bool → Bool → Tests
tests ended opened is_hdr is_grh is_grt is_trl begins none read numbered group_counted next_id type_coded file_counted blank coded = record {
  ended = ended;
  opened = opened;
  is_hdr = is_hdr;
  is_grh = is_grh;
  is_grt = is_grt;
  is_trl = is_trl;
  begins = begins;
  none = none;
  read = read;
  numbered = numbered;
  group_counted = group_counted;
  next_id = next_id;
  type_coded = type_coded;
  file_counted = file_counted;
  blank = blank;
  coded = coded;
}

-- the sentences from these tests
abbrev sentences_by : Tests → List Sentence
sentences_by t =
    sentence outside_groups ((not t.ended && not t.opened) && not t.is_grh && not t.is_trl)
    ∷ sentence wrong_group_id ((not t.ended && not t.opened) && t.is_grh && not t.next_id)
    ∷ sentence misplaced_in_group ((not t.ended && t.opened) && ((t.is_hdr || t.is_grh || t.is_trl) || (not t.is_grt && not t.begins && t.none)))
    ∷ sentence wrong_sequence ((not t.ended && t.opened) && not t.is_grt && t.read && not t.numbered)
    ∷ sentence wrong_group_counts ((not t.ended && t.opened) && t.is_grt && not t.group_counted)
    ∷ sentence wrong_file_counts ((not t.ended && not t.opened) && t.is_trl && not t.file_counted)
    ∷ sentence behind_trailer (t.ended && not t.blank)
    ∷ sentence wrong_type (((not t.ended && not t.opened) && t.is_grh && not t.type_coded) || ((not t.ended && t.opened) && not t.coded))
    ∷ []

-- the chain from these tests
abbrev chain_by : Tests → Option ℕ
chain_by t =
    if t.ended then (if t.blank then None else Some behind_trailer)
    else (if t.opened
    then (if t.is_grt then (if t.group_counted then None else Some wrong_group_counts)
    else (if (t.is_hdr || t.is_grh || t.is_grt || t.is_trl) || (not t.begins && t.none) then Some misplaced_in_group
    else (if t.read && not t.numbered then Some wrong_sequence
    else (if not t.coded then Some wrong_type else None))))
    else (if t.is_grh then (if not t.next_id then Some wrong_group_id else (if not t.type_coded then Some wrong_type else None))
    else (if t.is_trl then (if t.file_counted then None else Some wrong_file_counts) else Some outside_groups)))

ended-chosen : (blank : Bool) → first_that_holds (sentence behind_trailer (not blank) ∷ sentence wrong_type false ∷ []) ≡ cond blank None (Some behind_trailer)
ended-chosen true = refl
ended-chosen false = refl

closing-chosen : (counted : Bool) → first_that_holds (sentence wrong_group_counts (not counted) ∷ sentence wrong_file_counts false ∷ sentence behind_trailer false ∷ sentence wrong_type false ∷ []) ≡ cond counted None (Some wrong_group_counts)
closing-chosen true = refl
closing-chosen false = refl

trailer-chosen : (counted : Bool) → first_that_holds (sentence wrong_file_counts (not counted) ∷ sentence behind_trailer false ∷ sentence wrong_type false ∷ []) ≡ cond counted None (Some wrong_file_counts)
trailer-chosen true = refl
trailer-chosen false = refl

record-chosen : (a last odd wrong coded : Bool) → first_that_holds (sentence misplaced_in_group ((a || last) || odd) ∷ sentence wrong_sequence wrong ∷ sentence wrong_group_counts false ∷ sentence wrong_file_counts false ∷ sentence behind_trailer false ∷ sentence wrong_type (not coded) ∷ []) ≡ cond (((a || false) || last) || odd) (Some misplaced_in_group) (cond wrong (Some wrong_sequence) (cond (not coded) (Some wrong_type) None))
record-chosen true last odd wrong coded = refl
record-chosen false true odd wrong coded = refl
record-chosen false false true wrong coded = refl
record-chosen false false false true coded = refl
record-chosen false false false false true = refl
record-chosen false false false false false = refl

opening-chosen : (next coded : Bool) → first_that_holds (sentence wrong_group_id (not next) ∷ sentence wrong_file_counts false ∷ sentence behind_trailer false ∷ sentence wrong_type (not coded || false) ∷ []) ≡ cond (not next) (Some wrong_group_id) (cond (not coded) (Some wrong_type) None)
opening-chosen false coded = refl
opening-chosen true true = refl
opening-chosen true false = refl

-- a line that is a group trailer is none of the other three, and its type is of A-Z
record OnlyTrailer (h g t c : Bool) : Type 0 where
  no_hdr : h ≡ false
  no_grh : g ≡ false
  no_trl : t ≡ false
  is_coded : c ≡ true

chosen : (e o h g ends last begun nothing listed nu gc ni tc fc bl co : Bool) → (ends ≡ true → OnlyTrailer h g last co) → (g ≡ true → last ≡ false) → first_that_holds (sentences_by (tests e o h g ends last begun nothing listed nu gc ni tc fc bl co)) ≡ chain_by (tests e o h g ends last begun nothing listed nu gc ni tc fc bl co)
chosen true o h g ends last begun nothing listed nu gc ni tc fc bl co only other = ended-chosen bl
chosen false true h g true last begun nothing listed nu gc ni tc fc bl co only other =
    let is = only refl in rw (is.no_hdr, is.no_grh, is.no_trl, is.is_coded) (closing-chosen gc)
chosen false true h g false last begun nothing listed nu gc ni tc fc bl co only other = record-chosen (h || g) last (not begun && nothing) (listed && not nu) co
chosen false false h true ends last begun nothing listed nu gc ni tc fc bl co only other =
    let is = other refl in rw is (opening-chosen ni tc)
chosen false false h false ends true begun nothing listed nu gc ni tc fc bl co only other = trailer-chosen fc
chosen false false h false ends false begun nothing listed nu gc ni tc fc bl co only other = refl

only_trailer : (line : List ℕ) → has_type grt line ≡ true → OnlyTrailer (has_type hdr line) (has_type grh line) (has_type trl line) (is_code (record_type_in line))
unfolding has_type is_code
only_trailer line e = record {
  no_hdr = other_type grt hdr line refl e;
  no_grh = other_type grt grh line refl e;
  no_trl = other_type grt trl line refl e;
  is_coded = ap is_code ((bytes_eq-Decides (record_type_in line) grt).0 e);
}

first-line : (sender line : List ℕ) → first_that_holds (structure_sentences sender [] line) ≡ header_fault sender line
unfolding header_fault is_ended is_open since
first-line sender line = refl

later-line : (sender nearest : List ℕ) (past : List (List ℕ)) (line : List ℕ) → first_that_holds (structure_sentences sender (nearest ∷ past) line) ≡ later_fault (nearest ∷ past) line
unfolding later_fault group_fault between_fault opening_fault trailer_fault closing_fault record_fault ended_fault is_frame
later-line sender nearest past line =
    let p = nearest ∷ past in
    let type = open_type p in
    chosen (is_ended p) (is_open p) (has_type hdr line) (has_type grh line) (has_type grt line) (has_type trl line)
    (has_type type line) (transactions_in_group p == 0) (is_read type)
    (is_numbered (sequence_at type (transactions_in_group p) line) (record_sequence_at type (next_number p) line) line)
    (has_group_counts (groups_before p) (transactions_in_group p) (lines_in_group p + 1) line)
    (bears (group_header_of line).group_id (groups_before p + 1)) (is_code (type_of_group line))
    (has_file_counts (groups_before p) (transactions_before p) (length p + 1) line)
    (is_blank line) (is_code (record_type_in line))
    (only_trailer line) (λ e. other_type grh trl line refl e)

-- the chain finds the first sentence on the structure that holds
pub structure-chained : (sender : List ℕ) (past : List (List ℕ)) (line : List ℕ) → first_that_holds (structure_sentences sender past line) ≡ structure_fault sender past line
structure-chained sender [] line = first-line sender line
structure-chained sender (nearest ∷ past) line = later-line sender nearest past line

-- the chain finds the fault of a line
pub fault-chained : (sender : List ℕ) (past : List (List ℕ)) (end : ℕ) (line : List ℕ) → fault_at sender past end line ≡ chained_fault sender past end line
unfolding fault_at
fault-chained sender past end line = ap (λ f. cond (is_too_large end line) (Some too_large) f) (structure-chained sender past line)
