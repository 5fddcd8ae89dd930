-- Lists that are gone over with a test.
use Rattle.std.proofs.Common.{◌≡◌, ◌∙◌, ◌<◌, ◌+◌, ◌&&◌, ◌++◌, ◌∷◌, [], ℕ, Bool, true, false, List, get_or, length, take, refl, ap, ap₂, subst, sym}
use Rattle.std.proofs.lemmas.Bool.{false≢true}
use Rattle.std.proofs.lemmas.List.Folds.{list_all_more}
use Rattle.std.proofs.lemmas.List.{take_more}
use Rattle.std.specs.List.{AllByRecursion, list_all}
use Rattle.sqlite_keyed.proofs.ListLemmas.{all-append, all_from_test}
use Rattle.sqlite_trees.proofs.ListLemmas.{all-get_or}

-- one fails, and so not all pass
pub one_fails : {X : Type 0} (p : X → Bool) (xs : List X) (i : ℕ) (x : X) → i < length xs → x ≡ get_or xs i x → p x ≡ false → false ≡ list_all p xs
one_fails p xs i x within is fails = by_case (list_all p xs) refl
  where
    by_case : (t : Bool) → list_all p xs ≡ t → false ≡ t
    by_case false e = refl
    by_case true e = absurd (false≢true (sym fails ∙ ap p is ∙ all-get_or (λ z. p z ≡ true) xs i x (all_from_test p xs e) within))

-- those so far pass, and the next
pub one_passes : {X : Type 0} (p : X → Bool) (xs : List X) (i : ℕ) (x : X) → i < length xs → x ≡ get_or xs i x → list_all p (take i xs) ≡ true → p x ≡ true → list_all p (take (i + 1) xs) ≡ true
one_passes p xs i x within is before here = list_all_more p xs i x within ∙ ap₂ (λ s t. s && t) before (ap p (sym is) ∙ here)

-- what holds of those so far holds of one more
pub each_more : {X : Type 0} (P : X → Type 0) (xs : List X) (i : ℕ) (x : X) → i < length xs → x ≡ get_or xs i x → AllByRecursion P (take i xs) → P x → AllByRecursion P (take (i + 1) xs)
each_more {X} P xs i x within is before here =
    let next : take (i + 1) xs ≡ take i xs ++ x ∷ [] = take_more xs i x within ∙ ap (λ (z : X). take i xs ++ z ∷ []) (sym is) in
    subst (AllByRecursion P) (sym next) (all-append P (take i xs) (x ∷ []) before (here, tt))

-- what holds of all holds of the one at a place
pub each_here : {X : Type 0} (P : X → Type 0) (xs : List X) (i : ℕ) (x : X) → i < length xs → x ≡ get_or xs i x → AllByRecursion P xs → P x
each_here P xs i x within is all = subst P (sym is) (all-get_or P xs i x all within)
