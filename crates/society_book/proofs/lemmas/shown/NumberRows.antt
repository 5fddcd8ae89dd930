-- What the rows of a sender's transmissions show whose numbers stand above one, or above one and below another.
use Rattle.std.proofs.Common.{◌≡◌, ◌∙◌, ◌+◌, ◌<◌, ◌≤◌, ◌&&◌, ◌||◌, ◌==◌, ℕ, pos, suc, zero, Bool, true, false, cond, List, [], ◌∷◌, Option, Some, None, is_some, length, get_or, Result, Ok, Err, IfOk, OnOk, refl, ap, ap₂, sym, subst, arith, map, filter, take, nat_lt, bytes_eq, IsPermutation, IsSorted, Less, Equal, Greater, Ordering, int_cmp, is_gt, is_lt, add-one, eqb-true, ⊎_elim}
use Rattle.std.specs.List.{AllByRecursion, list_any}
use Rattle.std.specs.List.Sorted.{IsStrictlySortedBy}
use Rattle.std.specs.Ordering.{eq_by_cmp, nat_cmp, ordering_then}
use Rattle.std.proofs.lemmas.Bool.{and_from, and_parts, and_right, cases_lt, eq-eqb, false≢true}
use Rattle.std.proofs.lemmas.Bool.Decides.{nat_tests}
use Rattle.std.proofs.lemmas.Cmp.{nat_cmp_total}
use Rattle.std.proofs.lemmas.List.Sorted.{length_permutation, list_any-IsPermutation}
use Rattle.std.proofs.lemmas.Slice.Eq.{bytes_eq-Decides}
use Rattle.sqlite_keyed.proofs.ListLemmas.{IsPermutation-filter, all-filter, all_both, all_weaker}
use Rattle.sqlite_schema.specs.Rules.{equal}
use Rattle.sqlite_sql.specs.Ops.{binary}
use Rattle.sqlite_sql.specs.Query.{key_cmp}
use Rattle.sqlite_trees.proofs.ListLemmas.{all-permutation, filter_same}
use Rattle.sqlite_trees.specs.Tree.{Trees}
use Rattle.sqlite_value.proofs.OrderLemmas.{value_cmp-Int}
use Rattle.sqlite_value.specs.Keys.{ascending, by_key, rising}
use Rattle.sqlite_value.specs.Order.{Row, column, value_cmp}
use Rattle.sqlite_value.specs.declared.keys.Collation.TheVariants.{Binary}
use Rattle.sqlite_value.specs.declared.value.Value.TheVariants.{Int, Text}
use Rattle.society_core.proofs.lemmas.Ascending.{ascending_in_order, same_ascending}
use Rattle.std.proofs.lemmas.List.Kept.{IsStrictlySortedBy-filter}
use Rattle.society_core.proofs.lemmas.LineNumbers.{one_that_passes}
use Rattle.society_core.proofs.lemmas.NumbersThere.{numbers_ascend, there_of_numbers}
use Rattle.society_core.proofs.lemmas.KeyOrders.{exact_numbers}
use Rattle.society_core.specs.Book.{Book, body_at, is_there, numbers_of}
use Rattle.society_core.specs.Ends.{last_number_of}
use Rattle.society_rows.specs.declared.fault.RowFault.{RowFault}
use Rattle.society_core.specs.Keys.{transmission_key}
use Rattle.society_core.specs.declared.transmission_key.TransmissionKey.{TransmissionKey}
use Rattle.society_rows.specs.Layout as layout
use Rattle.society_rows.specs.Reads.{Lists, ListsKeys, exceeds, is_above, is_above_and_below, precedes}
use Rattle.society_rows.specs.Stored.{rows_in}
use Rattle.society_book.specs.BookRows.{is_transmission_row, row_of_some, transmission_key_of, transmission_row, transmission_rows}
use Rattle.society_book.specs.Columns.{whole_number_at, text_at}
use Rattle.society_book.specs.Sources.{HasTransmissions}
use Rattle.society_book.specs.Standing.{is_strictly_between, numbers_above, numbers_within}
use Rattle.society_rows.proofs.lemmas.readings.KeyEquality.{text_equal}
use Rattle.society_rows.proofs.lemmas.changes.Rowids.{truth_of}
use Rattle.society_book.proofs.lemmas.rows_alike.KeyRows.{HasKeyForm, both_same, either_way, transmissions_formed}
use Rattle.society_book.proofs.lemmas.rows_alike.RowLemmas.{all_rows, any_same, filter_both, only}
use Rattle.society_book.proofs.lemmas.rows_alike.SortedRows.{is_numbered, led}
use Rattle.society_book.proofs.lemmas.rows_alike.BookLemmas.{filter_true}

above_test : (m n : ℕ) → exceeds (Int (pos m)) (Int (pos n)) ≡ nat_lt n m
unfolding binary
above_test m n = truth_of (is_gt (value_cmp (Int (pos m)) (Int (pos n)))) ∙ ap is_gt (value_cmp-Int (pos m) (pos n)) ∙ ints_above m n
  where
    ints_above : (a b : ℕ) → is_gt (int_cmp (pos a) (pos b)) ≡ nat_lt b a
    ints_above a b = grind (arith, nat_tests)

-- a row of the sender above a number
above_so : (s : List ℕ) (f : ℕ) (row : Row) → HasKeyForm row → is_above (Text s) (Int (pos f)) row ≡ (bytes_eq s (text_at 0 row) && nat_lt f (whole_number_at 1 row))
above_so s f row form =
    ap₂ (λ x y. x && y)
    (ap (λ v. equal Binary v (Text s)) form.0 ∙ text_equal (text_at 0 row) s ∙ either_way (text_at 0 row) s)
    (ap (λ v. exceeds v (Int (pos f))) form.1 ∙ above_test (whole_number_at 1 row) f)

below_test : (m n : ℕ) → precedes (Int (pos m)) (Int (pos n)) ≡ nat_lt m n
unfolding binary
below_test m n = truth_of (is_lt (value_cmp (Int (pos m)) (Int (pos n)))) ∙ ap is_lt (value_cmp-Int (pos m) (pos n)) ∙ ints_below m n
  where
    ints_below : (a b : ℕ) → is_lt (int_cmp (pos a) (pos b)) ≡ nat_lt a b
    ints_below a b = grind (arith, nat_tests)

-- one above a number and below another
within_so : (s : List ℕ) (f t : ℕ) (row : Row) → HasKeyForm row → is_above_and_below (Text s) (Int (pos f)) (Int (pos t)) row ≡ (bytes_eq s (text_at 0 row) && is_strictly_between f t (whole_number_at 1 row))
within_so s f t row form =
    ap₂ (λ x y. x && y)
    (ap (λ v. equal Binary v (Text s)) form.0 ∙ text_equal (text_at 0 row) s ∙ either_way (text_at 0 row) s)
    (ap (λ v. exceeds v (Int (pos f)) && precedes v (Int (pos t))) form.1 ∙ ap₂ (λ x y. x && y) (above_test (whole_number_at 1 row) f) (below_test (whole_number_at 1 row) t))

-- a test of what passes another
any_filter : (p q : Row → Bool) (rows : List Row) → list_any p (filter q rows) ≡ list_any (λ row. q row && p row) rows
any_filter p q [] = refl
any_filter p q (row ∷ rows) = by_case (q row) (any_filter p q rows)
  where
    by_case : (t : Bool) → list_any p (filter q rows) ≡ list_any (λ r. q r && p r) rows → list_any p (cond t (row ∷ filter q rows) (filter q rows)) ≡ ((t && p row) || list_any (λ r. q r && p r) rows)
    by_case true e = ap (λ x. p row || x) e
    by_case false e = e

any_and : (t : Bool) (p : Row → Bool) (rows : List Row) → list_any (λ row. t && p row) rows ≡ (t && list_any p rows)
any_and true p rows = refl
any_and false p [] = refl
any_and false p (row ∷ rows) = any_and false p rows

any_here : (key : TransmissionKey) (o : Option (List ℕ)) → list_any (is_transmission_row key) (row_of_some (transmission_row key) o) ≡ is_some o
any_here key None = refl
any_here key (Some body) = ap (λ x. x || false) (both_same key.sender key.number)

pub any_kept : (p : Row → Bool) (rows : List Row) → list_any p (filter p rows) ≡ list_any p rows
any_kept p rows = any_filter p p rows ∙ any_same (λ row. p row && p row) p (λ row. twice (p row)) rows
  where
    twice : (b : Bool) → (b && b) ≡ b
    twice true = refl
    twice false = refl

any_number : (q : ℕ) (rows : List Row) → list_any (eq_by_cmp nat_cmp q) (map (whole_number_at 1) rows) ≡ list_any (is_numbered q) rows
any_number q [] = refl
any_number q (row ∷ rows) = ap₂ (λ x y. x || y) (tie q (whole_number_at 1 row)) (any_number q rows)
  where
    tie : (n m : ℕ) → eq_by_cmp nat_cmp n m ≡ (n == m)
    tie n m = grind (arith, nat_tests)

any_equal : (q : ℕ) (ns : List ℕ) → list_any (eq_by_cmp nat_cmp q) ns ≡ list_any (λ m. m == q) ns
any_equal q ns = any_same (eq_by_cmp nat_cmp q) (λ m. m == q) (tie q) ns
  where
    tie : (n m : ℕ) → eq_by_cmp nat_cmp n m ≡ (m == n)
    tie n m = grind (arith, nat_tests)

-- rows of one sender, ascending, none with the number of another, ascend by their numbers
abbrev IsOf : List ℕ → Row → Type 0
IsOf s row = (column row 0 ≡ Text s) × (column row 1 ≡ Int (pos (whole_number_at 1 row)))

not_less : (a b : ℕ) → is_lt (int_cmp (pos a) (pos b)) ≡ false → b ≤ a
not_less a b h = grind (arith, nat_tests)

second_decides : (o : Ordering) → ordering_then o Equal ≡ o
second_decides Less = refl
second_decides Equal = refl
second_decides Greater = refl

compared : (s : List ℕ) (a b : Row) → IsOf s a → IsOf s b → key_cmp 0 (rising 2 []) a b ≡ int_cmp (pos (whole_number_at 1 a)) (pos (whole_number_at 1 b))
compared s a b x y =
    ap (λ o. ordering_then o (ordering_then (by_key (ascending Binary) (column a 1) (column b 1)) Equal)) (led a b 0 (x.0 ∙ sym y.0))
    ∙ second_decides (by_key (ascending Binary) (column a 1) (column b 1))
    ∙ ap₂ (by_key (ascending Binary)) x.1 y.1
    ∙ value_cmp-Int (pos (whole_number_at 1 a)) (pos (whole_number_at 1 b))

abbrev NoneTwice : List Row → Type 0
NoneTwice rows = (n : ℕ) → length (filter (is_numbered n) rows) ≤ 1

fewer : (r : Row) (rows : List Row) → NoneTwice (r ∷ rows) → NoneTwice rows
fewer r rows few n = by_case (is_numbered n r) (few n)
  where
    by_case : (b : Bool) → length (cond b (r ∷ filter (is_numbered n) rows) (filter (is_numbered n) rows)) ≤ 1 → length (filter (is_numbered n) rows) ≤ 1
    by_case true h = omega arith
    by_case false h = h

two_alike : (a b : Row) (rows : List Row) → whole_number_at 1 a ≡ whole_number_at 1 b → NoneTwice (a ∷ b ∷ rows) → ⊥
two_alike a b rows same few =
    let n = whole_number_at 1 a in
    let both : filter (is_numbered n) (a ∷ b ∷ rows) ≡ a ∷ b ∷ filter (is_numbered n) rows =
    ap (λ t. cond t (a ∷ filter (is_numbered n) (b ∷ rows)) (filter (is_numbered n) (b ∷ rows))) (eq-eqb n (whole_number_at 1 a) refl)
    ∙ ap (λ t. a ∷ cond t (b ∷ filter (is_numbered n) rows) (filter (is_numbered n) rows)) (eq-eqb n (whole_number_at 1 b) same) in
    let h : length (a ∷ b ∷ filter (is_numbered n) rows) ≤ 1 = subst (λ (l : List Row). length l ≤ 1) both (few n) in
    omega (arith, h)

less_is : (n m : ℕ) → n < m → nat_cmp n m ≡ Less
less_is n m h = grind (arith, nat_tests)

less_back : (n m : ℕ) → nat_cmp n m ≡ Less → n < m
less_back n m h = ⊎_elim (λ (y : n < m). y) (λ (y : m ≤ n). absurd (not_so (grind (arith, nat_tests)))) (cases_lt n m)
  where
    not_so : nat_lt n m ≡ false → ⊥
    not_so e = absurd (grind (arith, nat_tests))

all_past : (n m : ℕ) (ns : List ℕ) → n < m → AllByRecursion (λ y. nat_cmp m y ≡ Less) ns → AllByRecursion (λ y. nat_cmp n y ≡ Less) ns
all_past n m [] less all = tt
all_past n m (y ∷ ns) less all = (less_is n y (let h = less_back m y all.0 in omega (arith, h, less)), all_past n m ns less all.1)

numbers_rise : (s : List ℕ) (rows : List Row) → AllByRecursion (IsOf s) rows → IsSorted (key_cmp 0 (rising 2 [])) rows → NoneTwice rows → IsStrictlySortedBy nat_cmp (map (whole_number_at 1) rows)
unfolding IsStrictlySortedBy
numbers_rise s [] of sorted few = tt
numbers_rise s (a ∷ []) of sorted few = (tt, tt)
numbers_rise s (a ∷ b ∷ rows) of sorted few =
    let tail : IsSorted (key_cmp 0 (rising 2 [])) (b ∷ rows) = λ k d p q. rw add-one (rw add-one at (sorted (suc k) d (omega arith) (omega arith))) in
    let rest = numbers_rise s (b ∷ rows) of.1 tail (fewer a (b ∷ rows) few) in
    let at_most : whole_number_at 1 a ≤ whole_number_at 1 b = not_less (whole_number_at 1 b) (whole_number_at 1 a) (sym (ap is_lt (compared s b a of.1.0 of.0)) ∙ sorted 0 a (omega arith) (omega arith)) in
    let apart : whole_number_at 1 a ≡ whole_number_at 1 b → ⊥ = λ same. two_alike a b rows same few in
    let less : whole_number_at 1 a < whole_number_at 1 b = ⊎_elim (λ (h : whole_number_at 1 a < whole_number_at 1 b). h) (λ (h : whole_number_at 1 b ≤ whole_number_at 1 a). absurd (apart (omega (arith, h, at_most)))) (cases_lt (whole_number_at 1 a) (whole_number_at 1 b)) in
    ((less_is (whole_number_at 1 a) (whole_number_at 1 b) less, all_past (whole_number_at 1 a) (whole_number_at 1 b) (map (whole_number_at 1) rows) less rest.0), rest)

no_more : (p q : Row → Bool) → ((row : Row) → p row ≡ true → q row ≡ true) → (rows : List Row) → length (filter p rows) ≤ length (filter q rows)
no_more p q h [] = omega arith
no_more p q h (row ∷ rows) = by_case (p row) refl (q row) refl (no_more p q h rows)
  where
    by_case : (x : Bool) → p row ≡ x → (y : Bool) → q row ≡ y → length (filter p rows) ≤ length (filter q rows) → length (cond x (row ∷ filter p rows) (filter p rows)) ≤ length (cond y (row ∷ filter q rows) (filter q rows))
    by_case true e true d few = omega arith
    by_case true e false d few = absurd (false≢true (sym d ∙ h row e))
    by_case false e true d few = omega arith
    by_case false e false d few = few

one_at_most : (key : TransmissionKey) (o : Option (List ℕ)) → length (row_of_some (transmission_row key) o) ≤ 1
one_at_most key None = omega arith
one_at_most key (Some body) = omega arith

turned : (x y : Bool) → ((x && y) && true) ≡ (y && (x && true))
turned true true = refl
turned true false = refl
turned false true = refl
turned false false = refl

module _ (b : Book) (db : Trees) (has : HasTransmissions b db) (s : List ℕ) (passes : ℕ → Bool) where
  -- a row of the sender whose number passes
  abbrev is_mine : Row → Bool
  is_mine row = bytes_eq s (text_at 0 row) && passes (whole_number_at 1 row)

  formed : AllByRecursion HasKeyForm (rows_in layout.transmissions db)
  formed = all_rows is_transmission_row transmission_key_of (λ r. both_same (text_at 0 r) (whole_number_at 1 r)) HasKeyForm (transmission_rows b) (rows_in layout.transmissions db) has (λ q. transmissions_formed q (body_at b q.sender q.number))

  of_sender : (rows : List Row) → AllByRecursion HasKeyForm rows → AllByRecursion (IsOf s) (filter is_mine rows)
  of_sender rows all =
      all_both HasKeyForm (λ row. is_mine row ≡ true) (IsOf s)
      (λ row form mine. (form.0 ∙ ap Text (sym ((bytes_eq-Decides s (text_at 0 row)).0 (and_parts (bytes_eq s (text_at 0 row)) (passes (whole_number_at 1 row)) mine).0)), form.1))
      (filter is_mine rows) (all-filter HasKeyForm is_mine rows all) (filter_true is_mine rows)

  under_key : (n : ℕ) → filter (is_transmission_row (transmission_key s n)) (rows_in layout.transmissions db) ≡ row_of_some (transmission_row (transmission_key s n)) (body_at b s n)
  under_key n = only (transmission_row (transmission_key s n)) (body_at b s n) (filter (is_transmission_row (transmission_key s n)) (rows_in layout.transmissions db)) (has (transmission_key s n))

  named_too : (n : ℕ) (row : Row) → (is_mine row && is_numbered n row) ≡ true → is_transmission_row (transmission_key s n) row ≡ true
  named_too n row h =
      let mine = and_parts (is_mine row) (is_numbered n row) h in
      and_from (bytes_eq s (text_at 0 row)) (is_numbered n row) (and_parts (bytes_eq s (text_at 0 row)) (passes (whole_number_at 1 row)) mine.0).0 mine.1

  few_rows : (n : ℕ) → length (filter (is_numbered n) (filter is_mine (rows_in layout.transmissions db))) ≤ 1
  few_rows n =
      let rows = rows_in layout.transmissions db in
      let both : length (filter (λ row. is_mine row && is_numbered n row) rows) ≡ length (filter (is_numbered n) (filter is_mine rows)) = ap length (filter_both is_mine (is_numbered n) rows) in
      let fewer_still = no_more (λ row. is_mine row && is_numbered n row) (is_transmission_row (transmission_key s n)) (named_too n) rows in
      let one : length (filter (is_transmission_row (transmission_key s n)) rows) ≤ 1 = subst (λ (l : List Row). length l ≤ 1) (sym (under_key n)) (one_at_most (transmission_key s n) (body_at b s n)) in
      omega (arith, both, fewer_still, one)

  none_twice : (found : List Row) → IsPermutation (filter is_mine (rows_in layout.transmissions db)) found → NoneTwice found
  none_twice found these n =
      let same = length_permutation (filter (is_numbered n) (filter is_mine (rows_in layout.transmissions db))) (filter (is_numbered n) found) (IsPermutation-filter (is_numbered n) (filter is_mine (rows_in layout.transmissions db)) found these) in
      let few = few_rows n in
      omega (arith, same, few)

  there_is : (n : ℕ) → list_any (is_transmission_row (transmission_key s n)) (rows_in layout.transmissions db) ≡ is_there b s n
  there_is n =
      sym (any_kept (is_transmission_row (transmission_key s n)) (rows_in layout.transmissions db))
      ∙ ap (list_any (is_transmission_row (transmission_key s n))) (under_key n) ∙ any_here (transmission_key s n) (body_at b s n)

  mine_or_other : (q : ℕ) (row : Row) → (is_mine row && is_numbered q row) ≡ (passes q && is_transmission_row (transmission_key s q) row)
  mine_or_other q row = by_case (q == whole_number_at 1 row) refl
    where
      by_case : (t : Bool) → (q == whole_number_at 1 row) ≡ t → ((bytes_eq s (text_at 0 row) && passes (whole_number_at 1 row)) && q == whole_number_at 1 row) ≡ (passes q && (bytes_eq s (text_at 0 row) && q == whole_number_at 1 row))
      by_case true e =
          ap (λ t. (bytes_eq s (text_at 0 row) && passes (whole_number_at 1 row)) && t) e
          ∙ turned (bytes_eq s (text_at 0 row)) (passes (whole_number_at 1 row))
          ∙ ap (λ n. passes n && (bytes_eq s (text_at 0 row) && true)) (sym (eqb-true q (whole_number_at 1 row) e))
          ∙ ap (λ t. passes q && (bytes_eq s (text_at 0 row) && t)) (sym e)
      by_case false e =
          ap (λ t. (bytes_eq s (text_at 0 row) && passes (whole_number_at 1 row)) && t) e
          ∙ and_right (is_mine row) false refl ∙ sym (and_right (passes q) (bytes_eq s (text_at 0 row) && false) (and_right (bytes_eq s (text_at 0 row)) false refl))
          ∙ ap (λ t. passes q && (bytes_eq s (text_at 0 row) && t)) (sym e)

  members : (found : List Row) → IsPermutation (filter is_mine (rows_in layout.transmissions db)) found → (q : ℕ) → list_any (eq_by_cmp nat_cmp q) (map (whole_number_at 1) found) ≡ list_any (eq_by_cmp nat_cmp q) (filter passes (numbers_of b s))
  members found these q =
      let rows = rows_in layout.transmissions db in
      any_number q found
      ∙ sym (list_any-IsPermutation (is_numbered q) (filter is_mine rows) found these)
      ∙ any_filter (is_numbered q) is_mine rows
      ∙ any_same (λ row. is_mine row && is_numbered q row) (λ row. passes q && is_transmission_row (transmission_key s q) row) (mine_or_other q) rows
      ∙ any_and (passes q) (is_transmission_row (transmission_key s q)) rows
      ∙ ap (λ t. passes q && t) (there_is q ∙ sym (there_of_numbers b s q))
      ∙ sym (one_that_passes passes q (numbers_of b s))
      ∙ sym (any_equal q (filter passes (numbers_of b s)))

  -- what is found has the numbers that pass
  numbers_found : (test : Row → Bool) → ((row : Row) → HasKeyForm row → test row ≡ is_mine row) → (found : List Row) → Lists layout.transmissions test 2 db found → map (whole_number_at 1) found ≡ filter passes (numbers_of b s)
  numbers_found test means found lists =
      let rows = rows_in layout.transmissions db in
      let same = filter_same test is_mine rows (all_weaker HasKeyForm (λ row. test row ≡ is_mine row) means rows formed) in
      let these : IsPermutation (filter is_mine rows) found = subst (λ l. IsPermutation l found) same lists.rows in
      let rises = numbers_rise s found (all-permutation (IsOf s) (filter is_mine rows) found these (of_sender rows formed)) lists.sorted (none_twice found these) in
      sym (ascending_in_order nat_cmp_total exact_numbers (map (whole_number_at 1) found) rises)
      ∙ same_ascending nat_cmp_total exact_numbers (map (whole_number_at 1) found) (filter passes (numbers_of b s)) (members found these)
      ∙ ascending_in_order nat_cmp_total exact_numbers (filter passes (numbers_of b s)) (IsStrictlySortedBy-filter nat_cmp passes (numbers_of b s) (numbers_ascend b s))

-- the second of a row's first two columns is its second
second_kept : (row : Row) → whole_number_at 1 (take 2 row) ≡ whole_number_at 1 row
second_kept [] = refl
second_kept (x ∷ []) = refl
second_kept (x ∷ y ∷ more) = refl

numbers_kept : (rows : List Row) → map (whole_number_at 1) (map (take 2) rows) ≡ map (whole_number_at 1) rows
numbers_kept [] = refl
numbers_kept (row ∷ rows) = ap₂ (λ n ns. n ∷ ns) (second_kept row) (numbers_kept rows)

-- what is found of the keys above a number are these numbers
pub above_found : (b : Book) (db : Trees) → HasTransmissions b db → (s : List ℕ) (above : ℕ) (found : List Row) → ListsKeys layout.transmissions (is_above (Text s) (Int (pos above))) 2 db found → map (whole_number_at 1) found ≡ numbers_above b s above
above_found b db has s above found keys =
    ap (map (whole_number_at 1)) keys.cut ∙ numbers_kept keys.whole
    ∙ numbers_found b db has s (nat_lt above) (is_above (Text s) (Int (pos above))) (above_so s above) keys.whole keys.listed

-- and of those above one and below another
pub within_found : (b : Book) (db : Trees) → HasTransmissions b db → (s : List ℕ) (above below : ℕ) (found : List Row) → ListsKeys layout.transmissions (is_above_and_below (Text s) (Int (pos above)) (Int (pos below))) 2 db found → map (whole_number_at 1) found ≡ numbers_within b s above below
within_found b db has s above below found keys =
    ap (map (whole_number_at 1)) keys.cut ∙ numbers_kept keys.whole
    ∙ numbers_found b db has s (is_strictly_between above below) (is_above_and_below (Text s) (Int (pos above)) (Int (pos below))) (within_so s above below) keys.whole keys.listed

-- what follows where an answer without a value went well
pub where_well : {P Q : Type 0} (r : Result (Unit {0}) RowFault) → OnOk r P → (P → Q) → IfOk r (λ _. Q)
where_well (Ok x) h follows = follows h
where_well (Err fault) h follows = tt

-- the last of some rows has the last of their numbers
pub last_of : (rows : List Row) (row : Row) (i : ℕ) → i + 1 ≡ length rows → row ≡ get_or rows i row → last_number_of (map (whole_number_at 1) rows) ≡ Some (whole_number_at 1 row)
last_of [] row i at is = absurd (omega (arith, at))
last_of (a ∷ []) row zero at is = ap (λ (r : Row). Some (whole_number_at 1 r)) (sym is)
last_of (a ∷ []) row (suc i) at is = absurd (omega (arith, at))
last_of (a ∷ b ∷ rows) row zero at is = absurd (omega (arith, at))
last_of (a ∷ b ∷ rows) row (suc i) at is = last_of (b ∷ rows) row i (omega (arith, at)) is
