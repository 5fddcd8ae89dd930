-- What a finite map has once an entry is put into it.
use Rattle.std.proofs.Common.{◌≡◌, ◌⊎◌, inl, inr, Bool, true, false, cond, Option, Some, None, refl, ap, subst, sym, ◌∙◌, ⊎_elim}
use Rattle.std.specs.FinMap.{FinMap, get, insert, get-insert}
use Rattle.std.specs.Cmp.{IsTotalOrder}
use Rattle.std.specs.Ordering.{eq_by_cmp, is_eq}
use Rattle.std.specs.declared.cmp.Ordering.{Ordering}
use Rattle.std.specs.declared.cmp.Ordering.TheVariants.{Less, Equal, Greater}
use Rattle.std.proofs.lemmas.Bool.{cases_Bool, false≢true}
use Rattle.std.proofs.lemmas.Cmp.{tied_itself}
use Rattle.std.proofs.lemmas.Map.Lookups.{CmpEqualImpliesEq}

pub tied : (o : Ordering) → is_eq o ≡ true → o ≡ Equal
tied Less h = absurd (false≢true h)
tied Equal h = refl
tied Greater h = absurd (false≢true h)

none_is_some : {X : Type 0} (x : X) → ◌≡◌ {A = Option X} None (Some x) → ⊥
none_is_some x e = cc

one_of : {X : Type 0} (x y : X) → ◌≡◌ {A = Option X} (Some x) (Some y) → x ≡ y
one_of x y e = cc

module _ {K X : Type 0} {R : K → K → Ordering} (total : IsTotalOrder R) (exact : CmpEqualImpliesEq R) where
  -- what was put is there
  pub inserted_there : (m : FinMap R X) (k : K) (v : X) → get (insert m k v) k ≡ Some v
  inserted_there m k v = get-insert total m k v k ∙ ap (λ (t : Bool). cond t (Some v) (get m k)) (ap is_eq (tied_itself total k))

  -- what is put under a free key leaves what is there
  pub inserted_keeps : (m : FinMap R X) (k : K) (v : X) (q : K) (x : X) → get m k ≡ None → get m q ≡ Some x → get (insert m k v) q ≡ Some x
  inserted_keeps m k v q x free there =
      ⊎_elim
      (λ (same : eq_by_cmp R q k ≡ true).
      let one = exact q k (tied (R q k) same) in
      absurd (none_is_some x (sym (subst (λ (z : K). get m z ≡ None) (sym one) free) ∙ there)))
      (λ (apart : eq_by_cmp R q k ≡ false). get-insert total m k v q ∙ ap (λ (t : Bool). cond t (Some v) (get m q)) apart ∙ there)
      (cases_Bool (eq_by_cmp R q k))

  -- what is there once an entry was put is that entry, or was there
  pub inserted_from : (m : FinMap R X) (k : K) (v : X) (q : K) (x : X) → get (insert m k v) q ≡ Some x → ((q ≡ k) × (v ≡ x)) ⊎ (get m q ≡ Some x)
  inserted_from m k v q x there =
      ⊎_elim
      (λ (same : eq_by_cmp R q k ≡ true).
      let now : Some v ≡ Some x = sym (ap (λ (t : Bool). cond t (Some v) (get m q)) same) ∙ sym (get-insert total m k v q) ∙ there in
      inl (exact q k (tied (R q k) same), one_of v x now))
      (λ (apart : eq_by_cmp R q k ≡ false). inr (sym (ap (λ (t : Bool). cond t (Some v) (get m q)) apart) ∙ sym (get-insert total m k v q) ∙ there))
      (cases_Bool (eq_by_cmp R q k))
