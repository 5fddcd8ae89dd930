-- Sorted lists that are one another in some order are one list, where elements that tie are the same.
use Rattle.std.proofs.Common.{◌≡◌, ◌∙◌, suc, Bool, true, false, cond, List, [], ◌∷◌, filter, length, refl, sym, ap, ap₂, arith, Ordering, Less, Equal, Greater, is_eq, is_lt, is_gt, IsSorted, IsPermutation, add-one}
use Rattle.std.specs.Cmp.{IsTotalOrder}
use Rattle.std.specs.List.{AllByRecursion}
use Rattle.std.specs.Ordering.{ordering_reverse}
use Rattle.std.proofs.lemmas.Bool.{false≢true}
use Rattle.std.proofs.lemmas.Cmp.{alike_right, tied_itself, upto}
use Rattle.std.proofs.lemmas.List.Sorted.{length_permutation}
use Rattle.sqlite_keyed.proofs.ListLemmas.{IsPermutation-filter, all_weaker, filter_none}
use Rattle.sqlite_trees.proofs.ListLemmas.{all-permutation}

module _ {X : Type 0} (cmp : X → X → Ordering) (total : IsTotalOrder cmp) where
  -- those that tie with an element
  abbrev pub tying : X → List X → List X
  tying x = filter (λ y. is_eq (cmp x y))

  abbrev AtMost : X → X → Type 0
  AtMost x y = is_gt (cmp x y) ≡ false

  turned : (o : Ordering) → is_lt o ≡ false → is_gt (ordering_reverse o) ≡ false
  turned Less h = absurd (false≢true (sym h))
  turned Equal h = refl
  turned Greater h = refl

  rest_sorted : (x : X) (xs : List X) → IsSorted cmp (x ∷ xs) → IsSorted cmp xs
  rest_sorted x xs sorted = λ k d p q. rw add-one (rw add-one at (sorted (suc k) d (omega arith) (omega arith)))

  -- the head of a sorted list is at most what follows
  head_least : (x : X) (xs : List X) → IsSorted cmp (x ∷ xs) → AllByRecursion (AtMost x) xs
  head_least x [] sorted = tt
  head_least x (y ∷ xs) sorted =
      let first : AtMost x y = ap is_gt (total.antisymm x y) ∙ turned (cmp y x) (sorted 0 x (omega arith) (omega arith)) in
      (first, all_weaker (AtMost y) (AtMost x) (λ z. upto total x y z first) xs (head_least y xs (rest_sorted x (y ∷ xs) sorted)))

  apart : (x y z : X) → cmp x y ≡ Less → AtMost y z → is_eq (cmp x z) ≡ false
  apart x y z less most = by_order (cmp y z) refl most
    where
      by_order : (o : Ordering) → cmp y z ≡ o → is_gt o ≡ false → is_eq (cmp x z) ≡ false
      by_order Less e h = ap is_eq (total.trans x y z less e)
      by_order Equal e h = ap is_eq (sym (alike_right total y z x e) ∙ less)
      by_order Greater e h = absurd (false≢true (sym h))

  -- what is below the head of a sorted list ties with nothing in it
  none_ties : (x y : X) (ys : List X) → cmp x y ≡ Less → IsSorted cmp (y ∷ ys) → tying x (y ∷ ys) ≡ []
  none_ties x y ys less sorted =
      filter_none (λ z. is_eq (cmp x z)) (y ∷ ys) (ap is_eq less, all_weaker (AtMost y) (λ z. is_eq (cmp x z) ≡ false) (λ z. apart x y z less) ys (head_least y ys sorted))

  head_ties : (x : X) (xs : List X) → tying x (x ∷ xs) ≡ x ∷ tying x xs
  head_ties x xs = ap (λ o. cond (is_eq o) (x ∷ tying x xs) (tying x xs)) (tied_itself total x)

  some_tie : (x : X) (xs ys : List X) → length (tying x (x ∷ xs)) ≡ length (tying x ys) → tying x ys ≡ [] → ⊥
  some_tie x xs ys same none = let e = sym (ap length (head_ties x xs)) ∙ same ∙ ap length none in omega (arith, e)

  one_less : (b : Bool) (x : X) (xs ys : List X) → length (cond b (x ∷ xs) xs) ≡ length (cond b (x ∷ ys) ys) → length xs ≡ length ys
  one_less true x xs ys same = omega (arith, same)
  one_less false x xs ys same = same

  module _ (P : X → Type 0) (exact : (x y : X) → P x → P y → cmp x y ≡ Equal → x ≡ y) where
    -- they are one
    pub sorted_once : (xs ys : List X) → AllByRecursion P xs → AllByRecursion P ys → IsSorted cmp xs → IsSorted cmp ys → ((x : X) → P x → length (tying x xs) ≡ length (tying x ys)) → xs ≡ ys
    sorted_once [] [] p q up also same = refl
    sorted_once [] (y ∷ ys) p q up also same = absurd (some_tie y ys [] (sym (same y q.0)) refl)
    sorted_once (x ∷ xs) [] p q up also same = absurd (some_tie x xs [] (same x p.0) refl)
    sorted_once (x ∷ xs) (y ∷ ys) p q up also same = by_order (cmp x y) refl (sorted_once xs ys p.1 q.1 (rest_sorted x xs up) (rest_sorted y ys also))
      where
        by_order : (o : Ordering) → cmp x y ≡ o → (((z : X) → P z → length (tying z xs) ≡ length (tying z ys)) → xs ≡ ys) → x ∷ xs ≡ y ∷ ys
        by_order Less e later = absurd (some_tie x xs (y ∷ ys) (same x p.0) (none_ties x y ys e also))
        by_order Greater e later = absurd (some_tie y ys (x ∷ xs) (sym (same y q.0)) (none_ties y x xs (total.antisymm y x ∙ ap ordering_reverse e) up))
        by_order Equal e later =
            let one : x ≡ y = exact x y p.0 q.0 e in
            ap₂ ◌∷◌ one (later (λ z h. one_less (is_eq (cmp z x)) x (tying z xs) (tying z ys) (same z h ∙ ap (λ (w : X). length (tying z (w ∷ ys))) (sym one))))

    -- so are those of which one is the other in some order
    pub sorted_alike : (xs ys : List X) → AllByRecursion P xs → IsPermutation xs ys → IsSorted cmp xs → IsSorted cmp ys → xs ≡ ys
    sorted_alike xs ys p same up also =
        sorted_once xs ys p (all-permutation P xs ys same p) up also
        (λ x here. sym (length_permutation (tying x xs) (tying x ys) (IsPermutation-filter (λ y. is_eq (cmp x y)) xs ys same)))
