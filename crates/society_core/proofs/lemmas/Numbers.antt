-- Numbers that a test lets pass.
use Rattle.std.proofs.Common.{◌≡◌, ℕ, Bool, true, false, cond, Option, Some, None, ap, sym, ◌∙◌, ⊎_elim}
use Rattle.std.proofs.lemmas.Bool.{cases_Bool}
use Rattle.work_ids.specs.Numbers.{number_where}

-- a number that passed is the number itself
pub number_is : (p : ℕ → Bool) (n m : ℕ) → number_where p n ≡ Some m → m ≡ n
number_is p n m e =
    ⊎_elim
    (λ (yes : p n ≡ true). let same : Some n ≡ Some m = sym (ap (λ (t : Bool). cond t (Some n) None) yes) ∙ e in cc)
    (λ (no : p n ≡ false). let none : None ≡ Some m = sym (ap (λ (t : Bool). cond t (Some n) None) no) ∙ e in absurd (apart none))
    (cases_Bool (p n))
  where
    apart : ◌≡◌ {A = Option ℕ} None (Some m) → ⊥
    apart e = cc

-- a number that did not pass
pub not_passed : (p : ℕ → Bool) (n : ℕ) → number_where p n ≡ None → p n ≡ false
not_passed p n e =
    ⊎_elim
    (λ (yes : p n ≡ true). let some : Some n ≡ None = sym (ap (λ (t : Bool). cond t (Some n) None) yes) ∙ e in absurd (apart some))
    (λ (no : p n ≡ false). no)
    (cases_Bool (p n))
  where
    apart : ◌≡◌ {A = Option ℕ} (Some n) None → ⊥
    apart e = cc
