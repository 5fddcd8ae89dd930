-- What the rows of a transmission and its verdicts make: its acknowledgement.
use Rattle.std.proofs.Common.{◌≡◌, ◌∙◌, Bool, true, false, cond, List, ℕ, [], Option, Some, None, refl, ap, unwrap_or}
use Rattle.ack_files.specs.Acknowledgement.{acknowledgement_file}
use Rattle.cwr_files.specs.Contents.{transmission_in}
use Rattle.share_rules.specs.declared.office.Office.{Office}
use Rattle.society_core.specs.Book.{Book, ack, body_at, is_in_line, shown_verdicts, verdicts_in}
use Rattle.works_core.specs.declared.verdict.Verdict.{Verdict}

one_of : (x y : List Verdict) → ◌≡◌ {A = Option (List Verdict)} (Some x) (Some y) → x ≡ y
one_of x y e = cc

none_is : (x : List Verdict) → ◌≡◌ {A = Option (List Verdict)} None (Some x) → ⊥
none_is x e = cc

-- where there are verdicts, there is the acknowledgement with them
with_verdicts : (applied : Bool) (all told : List Verdict) (text : List Verdict → List ℕ) → ◌≡◌ {A = Option (List Verdict)} (Some told) (cond applied (Some all) None) → ◌≡◌ {A = Option (List ℕ)} (Some (text told)) (cond applied (Some (text all)) None)
with_verdicts true all told text e = ap (λ (v : List Verdict). Some (text v)) (one_of told all e)
with_verdicts false all told text e = absurd (let h = e in cc)

without : (applied : Bool) (all : List Verdict) (text : List Verdict → List ℕ) → ◌≡◌ {A = Option (List Verdict)} None (cond applied (Some all) None) → ◌≡◌ {A = Option (List ℕ)} None (cond applied (Some (text all)) None)
without true all text e = absurd (none_is all e)
without false all text e = refl

-- the acknowledgement of what has these verdicts
pub acknowledged : (o : Office) (b : Book) (s : List ℕ) (n : ℕ) (verdicts : List Verdict) (text : Option (List ℕ)) → ◌≡◌ {A = Option (List Verdict)} (Some verdicts) (shown_verdicts o b s n) → text ≡ Some (acknowledgement_file o s (transmission_in (unwrap_or (body_at b s n) [])) verdicts) → text ≡ ack o b s n
acknowledged o b s n verdicts text told is =
    is ∙ with_verdicts (is_in_line b s n) (verdicts_in o b s n) verdicts (acknowledgement_file o s (transmission_in (unwrap_or (body_at b s n) []))) told

-- and of what has none
pub not_acknowledged : (o : Office) (b : Book) (s : List ℕ) (n : ℕ) → ◌≡◌ {A = Option (List Verdict)} None (shown_verdicts o b s n) → ◌≡◌ {A = Option (List ℕ)} None (ack o b s n)
not_acknowledged o b s n told = without (is_in_line b s n) (verdicts_in o b s n) (acknowledgement_file o s (transmission_in (unwrap_or (body_at b s n) []))) told
