-- Rows by their keys: what more rows add, and the maps that the rows of keys make.
use Rattle.std.proofs.Common.{◌≡◌, ◌<◌, ℕ, Bool, true, false, cond, List, [], ◌∷◌, ◌++◌, Option, Some, None, refl, ap, subst, sym, ◌∙◌, map, length, filter, IsPermutation, arith, ap₂, ◌&&◌, ◌||◌}
use Rattle.std.specs.FinMap.{FinMap, IsAntisymmetric, find, from_entries, get, get-from_entries, same_map}
use Rattle.std.specs.Cmp.{IsTotalOrder}
use Rattle.std.specs.List.{AllByRecursion, list_any, swap}
use Rattle.std.specs.Ordering.{eq_by_cmp}
use Rattle.std.specs.declared.cmp.Ordering.{Ordering}
use Rattle.std.proofs.lemmas.List.Elements.{filter-append}
use Rattle.std.proofs.lemmas.List.Sorted.{IsPermutation-append, IsPermutation-keeps, IsPermutation-refl, IsPermutation-trans}
use Rattle.sqlite_keyed.proofs.ListLemmas.{IsPermutation-filter, all_weaker}
use Rattle.sqlite_trees.proofs.ListLemmas.{all-permutation, filter_same}
use Rattle.sqlite_value.specs.Order.{Row}
use Rattle.society_book.specs.BookRows.{row_of_some}
use Rattle.society_book.specs.Columns.{HasRows}
use Rattle.sqlite_schema.specs.declared.schema.Table.{Table}
use Rattle.sqlite_trees.specs.Tree.{Trees}
use Rattle.society_rows.specs.Reads.{Lists}
use Rattle.society_rows.specs.Stored.{rows_in}

not_below : (i : ℕ) → i < 0 → ⊥
not_below i h = omega arith

only_first : (i : ℕ) → i < 1 → i ≡ 0
only_first i h = omega arith

-- a list of nothing has one order
pub none_else : {X : Type 0} (ys : List X) → IsPermutation [] ys → ys ≡ []
none_else ys p = IsPermutation-keeps [] (λ l. l ≡ []) refl (λ l i j in_i in_j h. absurd (not_below i (subst (λ (z : List _). i < length z) h in_i))) ys p

swapped_alone : {X : Type 0} (x : X) (l : List X) (i j : ℕ) → i < length l → j < length l → l ≡ x ∷ [] → swap l i j ≡ x ∷ []
swapped_alone x l i j in_i in_j h =
    let first : i ≡ 0 = only_first i (subst (λ (z : List _). i < length z) h in_i) in
    let second : j ≡ 0 = only_first j (subst (λ (z : List _). j < length z) h in_j) in
    ap (λ (z : List _). swap z i j) h ∙ ap (λ n. swap (x ∷ []) n j) first ∙ ap (λ n. swap (x ∷ []) 0 n) second

-- so has a list of one
pub one_else : {X : Type 0} (x : X) (ys : List X) → IsPermutation (x ∷ []) ys → ys ≡ x ∷ []
one_else x ys p = IsPermutation-keeps (x ∷ []) (λ l. l ≡ x ∷ []) refl (swapped_alone x) ys p

-- and what a key has, as one row or none
pub only : {X : Type 0} (row : X → Row) (o : Option X) (ys : List Row) → IsPermutation (row_of_some row o) ys → ys ≡ row_of_some row o
only row None ys p = none_else ys p
only row (Some x) ys p = one_else (row x) ys p

-- more rows of some keys
pub more_rows : {K : Type 0} (is_of : K → Row → Bool) (expected grown : K → List Row) (more old new : List Row) → HasRows is_of expected old → ((q : K) → IsPermutation (grown q) (filter (is_of q) more ++ expected q)) → IsPermutation (more ++ old) new → HasRows is_of grown new
more_rows is_of expected grown more old new has grows came q =
    IsPermutation-trans (grown q) (filter (is_of q) more ++ expected q) (filter (is_of q) new) (grows q)
    (IsPermutation-trans (filter (is_of q) more ++ expected q) (filter (is_of q) more ++ filter (is_of q) old) (filter (is_of q) new)
    (IsPermutation-append (filter (is_of q) more) (filter (is_of q) more) (expected q) (filter (is_of q) old) (IsPermutation-refl (filter (is_of q) more)) (has q))
    (subst (λ (l : List Row). IsPermutation l (filter (is_of q) new)) (filter-append (is_of q) more old) (IsPermutation-filter (is_of q) (more ++ old) new came)))

-- the same rows, for keys that have what they had
pub same_rows : {K : Type 0} (is_of : K → Row → Bool) (expected still : K → List Row) (old new : List Row) → HasRows is_of expected old → ((q : K) → still q ≡ expected q) → new ≡ old → HasRows is_of still new
same_rows is_of expected still old new has keeps same q =
    subst (λ (l : List Row). IsPermutation l (filter (is_of q) new)) (sym (keeps q)) (subst (λ (l : List Row). IsPermutation (expected q) (filter (is_of q) l)) (sym same) (has q))

head_all : (P : Row → Type 0) (b : Bool) (r : Row) (rest : List Row) → b ≡ true → AllByRecursion P (cond b (r ∷ rest) rest) → P r
head_all P true r rest e h = h.0
head_all P false r rest e h = absurd (let x = e in cc)

tail_all : (P : Row → Type 0) (b : Bool) (r : Row) (rest : List Row) → AllByRecursion P (cond b (r ∷ rest) rest) → AllByRecursion P rest
tail_all P true r rest h = h.1
tail_all P false r rest h = h

module _ {K : Type 0} (is_of : K → Row → Bool) (key_of : Row → K) (own : (r : Row) → is_of (key_of r) r ≡ true) (P : Row → Type 0) where
  each : (rows : List Row) → ((q : K) → AllByRecursion P (filter (is_of q) rows)) → AllByRecursion P rows
  each [] h = tt
  each (r ∷ rows) h = (head_all P (is_of (key_of r) r) r (filter (is_of (key_of r)) rows) (own r) (h (key_of r)), each rows (λ q. tail_all P (is_of q r) r (filter (is_of q) rows) (h q)))

  -- what holds of the rows that the keys are to have holds of all rows
  pub all_rows : (expected : K → List Row) (rows : List Row) → HasRows is_of expected rows → ((q : K) → AllByRecursion P (expected q)) → AllByRecursion P rows
  all_rows expected rows has good = each rows (λ q. all-permutation P (expected q) (filter (is_of q) rows) (has q) (good q))

-- tests that are the same of each find the same
pub any_same : {X : Type 0} (p q : X → Bool) → ((x : X) → p x ≡ q x) → (xs : List X) → list_any p xs ≡ list_any q xs
any_same p q same [] = refl
any_same p q same (x ∷ xs) = ap₂ (λ (a b : Bool). a || b) (same x) (any_same p q same xs)

-- two tests are one after the other
pub filter_both : {X : Type 0} (p q : X → Bool) (xs : List X) → filter (λ x. p x && q x) xs ≡ filter q (filter p xs)
filter_both p q [] = refl
filter_both {X} p q (x ∷ xs) = by_case (p x) (filter_both p q xs)
  where
    by_case : (b : Bool) → filter (λ z. p z && q z) xs ≡ filter q (filter p xs) → cond (b && q x) (x ∷ filter (λ z. p z && q z) xs) (filter (λ z. p z && q z) xs) ≡ filter q (cond b (x ∷ filter p xs) (filter p xs))
    by_case true e = ap (λ (l : List X). cond (q x) (x ∷ l) l) e
    by_case false e = e

module _ {K : Type 0} (P : Row → Type 0) (is_of : K → Row → Bool) (key_of : Row → K) (own : (r : Row) → is_of (key_of r) r ≡ true) (key : K) (test : Row → Bool) where
  -- the rows that a test finds which is that of a key are those that the key is to have
  pub found_under : ((r : Row) → P r → test r ≡ is_of key r) → (table : Table) (expected : K → List Row) (width : ℕ) (db : Trees) (found : List Row) → HasRows is_of expected (rows_in table db) → ((q : K) → AllByRecursion P (expected q)) → Lists table test width db found → IsPermutation (expected key) found
  found_under means table expected width db found has formed lists =
      let rows = rows_in table db in
      let same : filter test rows ≡ filter (is_of key) rows = filter_same test (is_of key) rows (all_weaker P (λ r. test r ≡ is_of key r) means rows (all_rows is_of key_of own P expected rows has formed)) in
      IsPermutation-trans (expected key) (filter (is_of key) rows) found (has key) (subst (λ (l : List Row). IsPermutation l found) same lists.rows)

  -- and with another test besides, those of them that pass it
  pub found_among : (also : Row → Bool) → ((r : Row) → P r → test r ≡ (is_of key r && also r)) → (table : Table) (expected : K → List Row) (db : Trees) (found : List Row) → HasRows is_of expected (rows_in table db) → ((q : K) → AllByRecursion P (expected q)) → IsPermutation (filter test (rows_in table db)) found → IsPermutation (filter also (expected key)) found
  found_among also means table expected db found has formed these =
      let rows = rows_in table db in
      let same : filter test rows ≡ filter also (filter (is_of key) rows) = filter_same test (λ r. is_of key r && also r) rows (all_weaker P (λ r. test r ≡ (is_of key r && also r)) means rows (all_rows is_of key_of own P expected rows has formed)) ∙ filter_both (is_of key) also rows in
      IsPermutation-trans (filter also (expected key)) (filter also (filter (is_of key) rows)) found (IsPermutation-filter also (expected key) (filter (is_of key) rows) (has key)) (subst (λ (l : List Row). IsPermutation l found) same these)

abbrev pub first_value : {K X : Type 0} → (Row → K × X) → List Row → Option X
first_value entry [] = None
first_value entry (r ∷ rows) = Some (entry r).1

module _ {K X : Type 0} {R : K → K → Ordering} (total : IsTotalOrder R) (exact : IsAntisymmetric R) (is_of : K → Row → Bool) (entry : Row → K × X) (agrees : (q : K) (r : Row) → eq_by_cmp R q (entry r).0 ≡ is_of q r) where
  found_here : (b : Bool) (r : Row) (rows : List Row) (o : Option X) → o ≡ first_value entry rows → cond b (Some (entry r).1) o ≡ first_value entry (cond b (r ∷ rows) rows)
  found_here true r rows o e = refl
  found_here false r rows o e = e

  -- the first entry at a key is that of the first row of the key
  pub found_first : (q : K) (rows : List Row) → find R q (map entry rows) ≡ first_value entry (filter (is_of q) rows)
  found_first q [] = refl
  found_first q (r ∷ rows) =
      ap (λ b. cond b (Some (entry r).1) (find R q (map entry rows))) (agrees q r) ∙ found_here (is_of q r) r (filter (is_of q) rows) (find R q (map entry rows)) (found_first q rows)

  value_back : (row : X → Row) (o : Option X) → ((x : X) → o ≡ Some x → (entry (row x)).1 ≡ x) → first_value entry (row_of_some row o) ≡ o
  value_back row None back = refl
  value_back row (Some x) back = ap Some (back x refl)

  -- the map of rows that have of each key what a map has is that map
  pub map_of_rows : (m : FinMap R X) (row : K → X → Row) → ((q : K) (x : X) → get m q ≡ Some x → (entry (row q x)).1 ≡ x) → (rows : List Row) → HasRows is_of (λ q. row_of_some (row q) (get m q)) rows → from_entries {R = R} (map entry rows) ≡ m
  map_of_rows m row back rows has =
      same_map total exact (from_entries {R = R} (map entry rows)) m
      (λ q. get-from_entries total (map entry rows) q ∙ found_first q rows ∙ ap (first_value entry) (only (row q) (get m q) (filter (is_of q) rows) (has q)) ∙ value_back (row q) (get m q) (back q))
