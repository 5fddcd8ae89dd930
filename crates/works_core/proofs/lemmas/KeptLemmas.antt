-- The verdicts of a line, one transmission after another.
use Rattle.std.specs.List.{slice_get}
use Rattle.std.proofs.Common.{◌≡◌, ℕ, suc, ◌-◌, length, Option, Some, None, ◌+◌, ◌<◌, List, [], ◌∷◌, ◌++◌, refl, sym, ap, subst, ◌∙◌, arith}
use Rattle.works_core.specs.Kept.{AreVerdicts, kept_line}
use Rattle.works_core.specs.Numbered.{IsRising, JudgedTransmission, last_number}
use Rattle.works_core.specs.Verdicts.{behind, verdicts_from}
use Rattle.works_core.specs.Versions.{Placed, judged_of, placed_at, placed_behind, placed_behind_all}
use Rattle.works_core.specs.declared.judged.Judged.{Judged}
use Rattle.works_core.specs.declared.sender_line.KeptTransmission.{KeptTransmission}

-- what stands before, as it is judged, once the transactions of a transmission have come
pub judged_of-behind : (past : List Placed) (n p : ℕ) (judged : List Judged) → judged_of (placed_behind past n p judged) ≡ behind (judged_of past) judged
judged_of-behind past n p [] = refl
judged_of-behind past n p (j ∷ more) = judged_of-behind (placed_at n p j ∷ past) n (p + 1) more

-- the verdicts are kept after one more transmission
pub kept_push : (past : List Placed) (kept : List KeptTransmission) (x : KeptTransmission) → AreVerdicts (judged_of past) kept → x.verdicts.items ≡ verdicts_from (judged_of (placed_behind_all past (kept_line kept))) x.judged.items → AreVerdicts (judged_of past) (kept ++ x ∷ [])
kept_push past [] x are is = (is, tt)
kept_push past (y ∷ kept) x are is =
    let same = judged_of-behind past y.number 0 y.judged.items in
    let later = kept_push (placed_behind past y.number 0 y.judged.items) kept x (subst (λ (js : List Judged). AreVerdicts js kept) (sym same) are.1) is in
    (are.0, subst (λ (js : List Judged). AreVerdicts js (kept ++ x ∷ [])) same later)

-- the transactions of a line after one more transmission
pub placed_push : (past : List Placed) (line : List JudgedTransmission) (x : JudgedTransmission) → placed_behind_all past (line ++ x ∷ []) ≡ placed_behind (placed_behind_all past line) x.number 0 x.judged
placed_push past [] x = refl
placed_push past (y ∷ line) x = placed_push (placed_behind past y.number 0 y.judged) line x

-- numbers rise with one more above them
pub rising_push : (low : ℕ) (line : List JudgedTransmission) (x : JudgedTransmission) → IsRising low line → last_number low line < x.number → IsRising low (line ++ x ∷ [])
rising_push low [] x rising above = (above, tt)
rising_push low (y ∷ line) x rising above = (rising.0, rising_push y.number line x rising.1 above)

-- the last of what is kept has the last number
pub last_of : (low : ℕ) (kept : List KeptTransmission) (x : KeptTransmission) → slice_get kept (length kept - 1) ≡ Some x → x.number ≡ last_number low (kept_line kept)
last_of low [] x is = absurd (none is)
  where
    none : ◌≡◌ {A = Option KeptTransmission} None (Some x) → ⊥
    none e = cc
last_of low (y ∷ []) x is = ap (λ (z : KeptTransmission). z.number) (some_is y x is)
  where
    some_is : (a b : KeptTransmission) → ◌≡◌ {A = Option KeptTransmission} (Some a) (Some b) → b ≡ a
    some_is a b e = let s : a ≡ b = cc in sym s
last_of low (y ∷ z ∷ kept) x is = last_of y.number (z ∷ kept) x (let e : length (y ∷ z ∷ kept) - 1 ≡ suc (length (z ∷ kept) - 1) = omega arith in sym (ap (slice_get (y ∷ z ∷ kept)) e) ∙ is)
