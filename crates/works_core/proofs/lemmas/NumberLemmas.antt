-- What the numbers of a line tell: which it has, what is up to one of them, and the verdicts of its last transmission.
use Rattle.std.proofs.Common.{◌≡◌, ◌≢◌, ℕ, ◌<◌, ◌≤◌, ◌==◌, Bool, true, false, cond, List, [], ◌∷◌, ◌++◌, nat_le, refl, ap, sym, ◌∙◌, arith, ⊎_elim}
use Rattle.std.proofs.lemmas.Bool.Decides.{eqb_tells, nat_tests}
use Rattle.works_core.specs.Line.{verdicts_at, verdicts_behind}
use Rattle.works_core.specs.Numbered.{IsRising, JudgedTransmission, last_number, up_to}
use Rattle.works_core.specs.Verdicts.{behind, verdicts_from}
use Rattle.works_core.specs.Versions.{Placed, judged_of, placed_behind, placed_behind_all, placed_line}
use Rattle.works_core.specs.declared.judged.Judged.{Judged}
use Rattle.works_core.proofs.lemmas.KeptLemmas.{judged_of-behind}

-- the last number of a line that rises is not below where it begins
pub last_not_below : (low : ℕ) (line : List JudgedTransmission) → IsRising low line → low ≤ last_number low line
last_not_below low [] rising = omega arith
last_not_below low (x ∷ line) rising =
    let first = rising.0 in
    let rest = last_not_below x.number line rising.1 in
    omega (arith, first, rest)

-- up to a number that is not below the last stands the whole line
pub up_to_all : (low number : ℕ) (line : List JudgedTransmission) → IsRising low line → last_number low line ≤ number → up_to number line ≡ line
up_to_all low number [] rising within = refl
up_to_all low number (x ∷ line) rising within =
    let rest = last_not_below x.number line rising.1 in
    let passes : nat_le x.number number ≡ true = not_above x.number number (omega (arith, rest, within)) in
    ap (λ (b : Bool). cond b (x ∷ up_to number line) (up_to number line)) passes
    ∙ ap (λ (l : List JudgedTransmission). x ∷ l) (up_to_all x.number number line rising.1 within)
  where
    not_above : (a b : ℕ) → a ≤ b → nat_le a b ≡ true
    not_above a b h = grind (arith, nat_tests, h)

-- the verdicts of a transmission above a line stand behind all of the line
verdicts_behind-last : (low : ℕ) (past : List Placed) (line : List JudgedTransmission) (x : JudgedTransmission) → IsRising low line → last_number low line < x.number → verdicts_behind (judged_of past) x.number (line ++ x ∷ []) ≡ verdicts_from (judged_of (placed_behind_all past line)) x.judged
verdicts_behind-last low past [] x rising above =
    ⊎_elim
    (λ (same : ((x.number == x.number) ≡ true) × (x.number ≡ x.number)). ap (λ (b : Bool). cond b (verdicts_from (judged_of past) x.judged) []) same.0)
    (λ (apart : ((x.number == x.number) ≡ false) × (x.number ≢ x.number)). absurd (apart.1 refl))
    (eqb_tells x.number x.number)
verdicts_behind-last low past (y ∷ line) x rising above =
    let rest = last_not_below y.number line rising.1 in
    ⊎_elim
    (λ (same : ((y.number == x.number) ≡ true) × (y.number ≡ x.number)). let e = same.1 in absurd (omega (arith, rest, above, e)))
    (λ (apart : ((y.number == x.number) ≡ false) × (y.number ≢ x.number)).
    ap (λ (b : Bool). cond b (verdicts_from (judged_of past) y.judged) (verdicts_behind (behind (judged_of past) y.judged) x.number (line ++ x ∷ []))) apart.0)
    (eqb_tells y.number x.number)
    ∙ ap (λ (js : List Judged). verdicts_behind js x.number (line ++ x ∷ [])) (sym (judged_of-behind past y.number 0 y.judged))
    ∙ verdicts_behind-last y.number (placed_behind past y.number 0 y.judged) line x rising.1 above

-- the verdicts of the last transmission of a line
pub verdicts_last : (line : List JudgedTransmission) (x : JudgedTransmission) → IsRising 0 line → last_number 0 line < x.number → verdicts_at (line ++ x ∷ []) x.number ≡ verdicts_from (judged_of (placed_line line)) x.judged
unfolding verdicts_at
verdicts_last line x rising above = verdicts_behind-last 0 [] line x rising above
