-- A transaction without a fault has a work number.
use Rattle.std.proofs.Common.{◌≡◌, ℕ, Bool, true, false, not, ◌&&◌, List, [], ◌∷◌, Some, None, Result, Ok, Err, is_ok, if◌then◌else◌, length, nat_le, refl, sym}
use Rattle.std.specs.List.{list_all}
use Rattle.std.specs.Result.{result_ok}
use Rattle.std.proofs.lemmas.Bool.{false≢true}
use Rattle.cwr_files.specs.Transaction.{number_of_work}
use Rattle.cwr_files.specs.declared.transmission.Transaction.{Transaction}
use Rattle.cwr_files.specs.Sentences.{Sentence, first_that_holds}
use Rattle.share_rules.specs.Fault.{fault_of, has_no_work_number, sentences}
use Rattle.share_rules.specs.declared.office.Office.{Office}
use Rattle.work_ids.specs.Blanks.{fill, without_trailing_blanks}
use Rattle.work_ids.specs.Characters.{is_printable}
use Rattle.work_ids.specs.WorkNumber.{work_number_of}
use Rattle.work_ids.specs.declared.fault.IdFault.{IdFault}
use Rattle.work_ids.specs.declared.fault.IdFault.TheVariants.{Length, Character}
use Rattle.works_core.proofs.lemmas.TrackLemmas.{none_is_none}

not_first : (s : Sentence) (more : List Sentence) → first_that_holds (s ∷ more) ≡ None → (s.holds ≡ false) × (first_that_holds more ≡ None)
not_first s more e = by_case s.holds e
  where
    by_case : (b : Bool) → (if b then Some s.fault else first_that_holds more) ≡ None → (b ≡ false) × (first_that_holds more ≡ None)
    by_case true is = absurd (none_is_none s.fault (sym is))
    by_case false is = (refl, is)

-- whether the second of some sentences holds
abbrev second_holds : List Sentence → Bool
second_holds (first ∷ second ∷ more) = second.holds
second_holds _ = false

second_not : (all : List Sentence) → first_that_holds all ≡ None → second_holds all ≡ false
second_not [] e = refl
second_not (first ∷ []) e = refl
second_not (first ∷ second ∷ more) e = (not_first second more (not_first first (second ∷ more) e).1).0

pub clean_has_number : (office : Office) (t : Transaction) → fault_of office t ≡ None → has_no_work_number t ≡ false
unfolding fault_of
clean_has_number office t e = second_not (sentences office t) e

pub number_there : (t : Transaction) → has_no_work_number t ≡ false → result_ok (number_of_work t) ≡ None → ⊥
number_there t there none = by_case (number_of_work t) there none
  where
    by_case : (r : Result (List ℕ) IdFault) → not (is_ok r) ≡ false → result_ok r ≡ None → ⊥
    by_case (Ok n) h e = none_is_none n (sym e)
    by_case (Err f) h e = false≢true (sym h)

pub number_filled : (bytes work : List ℕ) → result_ok (work_number_of bytes) ≡ Some work → work ≡ fill 14 (without_trailing_blanks bytes)
number_filled bytes work e =
    by_case (nat_le 1 (length (without_trailing_blanks bytes)) && nat_le (length (without_trailing_blanks bytes)) 14) (list_all is_printable (without_trailing_blanks bytes)) e
  where
    by_case : (a b : Bool) → result_ok {E = IdFault} (if a then (if b then Ok (fill 14 (without_trailing_blanks bytes)) else Err Character) else Err Length) ≡ Some work → work ≡ fill 14 (without_trailing_blanks bytes)
    by_case true true is = cc
    by_case true false is = absurd (none_is_none work is)
    by_case false b is = absurd (none_is_none work is)
