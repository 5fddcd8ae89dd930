-- Rows in SQLite's order, and lists of them that are one another in some order.
use Rattle.std.proofs.Common.{◌≡◌, ◌∙◌, ◌<◌, ◌+◌, ℕ, suc, zero, Bool, true, List, [], ◌∷◌, length, drop, map, min, refl, sym, ap, ap₂, subst, arith, Ordering, Less, Equal, Greater, is_lt, nat_cmp, IsSorted, IsPermutation}
use Rattle.std.specs.FinMap.{nat_cmp-IsAntisymmetric, int_cmp-IsAntisymmetric, slice_cmp-IsAntisymmetric}
use Rattle.std.proofs.lemmas.List.MinMax.{ranks_by}
use Rattle.std.proofs.lemmas.Fn.{always_returns_same}
use Rattle.std.specs.Borrow.{Bor}
use Rattle.std.specs.Cmp.{IsStrictWeakOrder}
use Rattle.std.specs.Fn.{Called, ComparesAs, Mut}
use Rattle.std.specs.List.{AllByRecursion}
use Rattle.std.specs.List.Sorted.{IsSortedBy}
use Rattle.std.specs.Ordering.{ordering_then}
use Rattle.std.proofs.lemmas.Bool.{false≢true}
use Rattle.std.proofs.lemmas.Bool.Decides.{nat_tests}
use Rattle.std.proofs.lemmas.List.{drop_more, get_or-map, length-map}
use Rattle.std.proofs.lemmas.List.Sorted.{IsPermutation-map, IsPermutation-sym, IsPermutation-trans}
use Rattle.sqlite_trees.proofs.ListLemmas.{all-permutation}
use Rattle.sqlite_value.proofs.KeyLemmas.{then_tied}
use Rattle.sqlite_value.proofs.OrderLemmas.{row_cmp_total, value_cmp-Int, value_cmp-Text, value_cmp-apart}
use Rattle.sqlite_value.specs.declared.value.Value.{Value}
use Rattle.sqlite_value.specs.declared.value.Value.TheVariants.{Blob, Int, Null, Real, Text}
use Rattle.sqlite_value.specs.Order.{Row, column, row_cmp, value_cmp}
use Rattle.book_audit.specs.Alike.{IsExact, is_exact}
use Rattle.book_audit.proofs.lemmas.lines.SortedOnce.{sorted_alike}

-- past the columns that both rows have, the shorter is first
pub row_cmp_past : (a b : Row) (at : ℕ) → at ≡ min (length a) (length b) → row_cmp (drop at a) (drop at b) ≡ nat_cmp (length a) (length b)
row_cmp_past [] [] zero e = refl
row_cmp_past [] [] (suc at) e = refl
row_cmp_past [] (y ∷ b) zero e = grind (arith, nat_tests)
row_cmp_past [] (y ∷ b) (suc at) e = absurd (omega arith)
row_cmp_past (x ∷ a) [] zero e = grind (arith, nat_tests)
row_cmp_past (x ∷ a) [] (suc at) e = absurd (omega arith)
row_cmp_past (x ∷ a) (y ∷ b) zero e = absurd (omega arith)
row_cmp_past (x ∷ a) (y ∷ b) (suc at) e = row_cmp_past a b at (omega arith) ∙ grind (arith, nat_tests)

-- values that tie are the same, where they are whole numbers or texts
one_value : (v w : Value) → is_exact v ≡ true → is_exact w ≡ true → value_cmp v w ≡ Equal → v ≡ w
one_value (Int m) (Int n) p q tie = ap Int (int_cmp-IsAntisymmetric m n (sym (value_cmp-Int m n) ∙ tie))
one_value (Text s) (Text t) p q tie = ap Text (slice_cmp-IsAntisymmetric nat_cmp-IsAntisymmetric s t (sym (value_cmp-Text s t) ∙ tie))
one_value (Int m) (Text t) p q tie = absurd (let no : Less ≡ Equal → ⊥ = λ e. cc in no (sym (value_cmp-apart (Int m) (Text t) (λ e. omega (arith, e))) ∙ tie))
one_value (Text s) (Int n) p q tie = absurd (let no : Greater ≡ Equal → ⊥ = λ e. cc in no (sym (value_cmp-apart (Text s) (Int n) (λ e. omega (arith, e))) ∙ tie))
one_value Null w p q tie = absurd (false≢true p)
one_value (Real x) w p q tie = absurd (false≢true p)
one_value (Blob b) w p q tie = absurd (false≢true p)
one_value (Int m) Null p q tie = absurd (false≢true q)
one_value (Int m) (Real x) p q tie = absurd (false≢true q)
one_value (Int m) (Blob b) p q tie = absurd (false≢true q)
one_value (Text s) Null p q tie = absurd (false≢true q)
one_value (Text s) (Real x) p q tie = absurd (false≢true q)
one_value (Text s) (Blob b) p q tie = absurd (false≢true q)

-- so are rows of such values
one_row : (r s : Row) → IsExact r → IsExact s → row_cmp r s ≡ Equal → r ≡ s
one_row [] [] p q tie = refl
one_row [] (w ∷ s) p q tie = absurd (let no : Less ≡ Equal → ⊥ = λ e. cc in no tie)
one_row (v ∷ r) [] p q tie = absurd (let no : Greater ≡ Equal → ⊥ = λ e. cc in no tie)
one_row (v ∷ r) (w ∷ s) p q tie =
    let parts = then_tied (value_cmp v w) (row_cmp r s) tie in
    ap₂ ◌∷◌ (one_value v w p.0 q.0 parts.0) (one_row r s p.1 q.1 parts.1)

-- a list that ascends by the values of its elements has ascending values
pub sorted_values : {X : Type 0} (values : X → Row) (xs : List X) → IsSortedBy (λ x y. is_lt (row_cmp (values x) (values y))) xs → IsSorted row_cmp (map values xs)
sorted_values values [] sorted = λ k d low high. absurd (omega (arith, high))
sorted_values values (x ∷ xs) sorted = λ k d low high.
    let long = length-map (x ∷ xs) values in
    let second : k + 1 < length (x ∷ xs) = omega (arith, long, high) in
    let first : k < length (x ∷ xs) = omega (arith, second) in
    ap₂ (λ (r s : Row). is_lt (row_cmp r s)) (get_or-map values (x ∷ xs) (k + 1) x d second) (get_or-map values (x ∷ xs) k x d first) ∙ sorted k x low second

-- ---- lists of rows and of what has such values, each put in order

module _ {X : Type 0} (values : X → Row) (rows sorted_rows : List Row) (wanted sorted_wanted : List X) (moved : IsPermutation rows sorted_rows) (put : IsPermutation wanted sorted_wanted) where
  -- where they are the same then, one is the other in some order
  pub alike_by : sorted_rows ≡ map values sorted_wanted → IsPermutation rows (map values wanted)
  alike_by same =
      IsPermutation-trans rows sorted_rows (map values wanted) moved
      (subst (λ (l : List Row). IsPermutation l (map values wanted)) (sym same) (IsPermutation-sym (map values wanted) (map values sorted_wanted) (IsPermutation-map values wanted sorted_wanted put)))

  -- and where one is the other in some order, they are the same then
  pub same_by : AllByRecursion IsExact (map values wanted) → IsSorted row_cmp sorted_rows → IsSorted row_cmp (map values sorted_wanted) → IsPermutation rows (map values wanted) → sorted_rows ≡ map values sorted_wanted
  same_by exact up also alike =
      let both : IsPermutation (map values wanted) (map values sorted_wanted) = IsPermutation-map values wanted sorted_wanted put in
      let theirs : IsPermutation (map values sorted_wanted) sorted_rows =
      IsPermutation-trans (map values sorted_wanted) (map values wanted) sorted_rows (IsPermutation-sym (map values wanted) (map values sorted_wanted) both)
      (IsPermutation-trans (map values wanted) rows sorted_rows (IsPermutation-sym rows (map values wanted) alike) moved) in
      sym (sorted_alike row_cmp row_cmp_total IsExact one_row (map values sorted_wanted) sorted_rows
      (all-permutation IsExact (map values wanted) (map values sorted_wanted) both exact) theirs also up)

-- what `sort_by` ensures where each call compares by the values
pub sorted_by_values : {X F : Type 0} {g : Mut F (Bor X × (Bor X × Unit {0})) Ordering} {f : F} (values : X → Row) (xs : List X) → ((lt : X → X → Bool) → IsStrictWeakOrder lt → ComparesAs g lt f → IsSortedBy lt xs)
    → ((a : Bor X × (Bor X × Unit {0})) (r : Ordering) (f' : F) → Called g f a r f' → (r ≡ row_cmp (values a.0.now) (values a.1.0.now)) × (f' ≡ f)) → IsSorted row_cmp (map values xs)
sorted_by_values {g = g} {f = f} values xs up calls =
    sorted_values values xs (up (λ x y. is_lt (row_cmp (values x) (values y))) (ranks_by row_cmp_total values)
    (always_returns_same g (λ a r. is_lt r ≡ is_lt (row_cmp (values a.0.now) (values a.1.0.now))) f (λ a r f' k. (ap is_lt (calls a r f' k).0, (calls a r f' k).1))))

-- where both rows have a column, it decides unless it ties
pub row_cmp_at : (a b : Row) (at : ℕ) → at < length a → at < length b → row_cmp (drop at a) (drop at b) ≡ ordering_then (value_cmp (column a at) (column b at)) (row_cmp (drop (at + 1) a) (drop (at + 1) b))
row_cmp_at a b at here there = ap₂ row_cmp (drop_more a at Null here) (drop_more b at Null there)

pub first_decides : (o p : Ordering) → (o ≡ Equal → ⊥) → ordering_then o p ≡ o
first_decides Less p h = refl
first_decides Equal p h = absurd (h refl)
first_decides Greater p h = refl
