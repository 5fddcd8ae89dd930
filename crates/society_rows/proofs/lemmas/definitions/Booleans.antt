-- Tests that a concrete table leaves.
use Rattle.std.proofs.Common.{◌≡◌, Bool, true, false, not, ◌&&◌, ◌||◌, true≢false, List, refl, sym, ◌∙◌, inl, inr}
use Rattle.std.specs.List.{list_any}
use Rattle.std.proofs.lemmas.Bool.{and_parts, not-true, cases_Bool}
use Rattle.sqlite_rules.specs.Lists.{Has}
use Rattle.sqlite_rules.proofs.ListLemmas.{some_from}

pub and_true : (b : Bool) → (b && true) ≡ b
and_true true = refl
and_true false = refl

-- one index alone is unique
pub the_only : (b : Bool) → ((b && true) || false) ≡ b
the_only true = refl
the_only false = refl

-- no row clashes, so this one is not far
pub free_of : {X : Type 0} (p : X → Bool) (rows : List X) (r : X) (far : Bool) → (not (list_any p rows) && true) ≡ true → Has rows r → (far ≡ true → p r ≡ true) → far ≡ false
free_of p rows r far passes has clashes = elim (cases_Bool far) [
  | inl is ↦ absurd (true≢false (sym (some_from p rows r has (clashes is)) ∙ not-true _ (and_parts _ _ passes).0))
  | inr not_far ↦ not_far
]
