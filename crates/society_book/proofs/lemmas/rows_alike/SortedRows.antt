-- Rows that ascend by their keys, and what is read back of them.
use Rattle.std.proofs.Common.{◌≡◌, ◌∙◌, ◌<◌, ◌+◌, ℕ, pos, Bool, true, false, List, [], ◌∷◌, ◌++◌, ◌==◌, ◌||◌, Option, Some, refl, ap, ap₂, sym, subst, arith, map, filter, IsPermutation, Less, Equal, int_cmp, IsSorted, eqb-true, ne_eqb}
use Rattle.std.specs.List.{AllByRecursion, enumerate_from, flat_map}
use Rattle.std.specs.Ordering.{ordering_then}
use Rattle.std.proofs.lemmas.Bool.{eq-eqb, false_from_ne_true, false≢true, or_parts}
use Rattle.std.proofs.lemmas.Bool.Decides.{nat_tests}
use Rattle.std.proofs.lemmas.List.{append-nil}
use Rattle.std.proofs.lemmas.Cmp.{tied_itself}
use Rattle.std.proofs.lemmas.List.Elements.{filter-append}
use Rattle.sqlite_keyed.proofs.SortLemmas.{sorted_unique}
use Rattle.sqlite_sql.proofs.QueryLemmas.{key_cmp_total}
use Rattle.sqlite_value.proofs.KeyLemmas.{by_key_total}
use Rattle.sqlite_sql.specs.Query.{key_cmp}
use Rattle.sqlite_trees.specs.Tree.{IsAscending}
use Rattle.sqlite_value.proofs.OrderLemmas.{value_cmp-Int}
use Rattle.sqlite_value.specs.Keys.{ascending, by_key, rising}
use Rattle.sqlite_value.specs.Order.{Row, column}
use Rattle.sqlite_value.specs.declared.keys.Collation.TheVariants.{Binary}
use Rattle.sqlite_value.specs.declared.value.Value.{Value}
use Rattle.sqlite_value.specs.declared.value.Value.TheVariants.{Int}
use Rattle.sender_segments.specs.Ascends.{Ascends}
use Rattle.society_core.specs.Book.{is_one_of}
use Rattle.society_core.proofs.lemmas.LineNumbers.{ascends_bounds, is_first}
use Rattle.society_book.specs.Columns.{whole_number_at}
use Rattle.sqlite_keyed.proofs.ListLemmas.{all_weaker, filter_all, filter_none}

tie : (v : Value) → by_key (ascending Binary) v v ≡ Equal
tie v = tied_itself (by_key_total (ascending Binary)) v

ints_rise : (p q : ℕ) → p < q → int_cmp (pos p) (pos q) ≡ Less
ints_rise p q h = grind (arith, nat_tests)

-- whole numbers rise
pub numbers_rise : (p q : ℕ) → p < q → by_key (ascending Binary) (Int (pos p)) (Int (pos q)) ≡ Less
numbers_rise p q h = value_cmp-Int (pos p) (pos q) ∙ ints_rise p q h

pub led : (a b : Row) (at : ℕ) → column a at ≡ column b at → by_key (ascending Binary) (column a at) (column b at) ≡ Equal
led a b at e = ap (by_key (ascending Binary) (column a at)) (sym e) ∙ tie (column a at)

-- rows with two equal columns in front rise by their third
pub rises_third : (a b : Row) (p q : ℕ) → column a 0 ≡ column b 0 → column a 1 ≡ column b 1 → column a 2 ≡ Int (pos p) → column b 2 ≡ Int (pos q) → p < q → key_cmp 0 (rising 3 []) a b ≡ Less
rises_third a b p q first second x y less =
    ap (λ o. ordering_then o (ordering_then (by_key (ascending Binary) (column a 1) (column b 1)) (ordering_then (by_key (ascending Binary) (column a 2) (column b 2)) Equal))) (led a b 0 first)
    ∙ ap (λ o. ordering_then o (ordering_then (by_key (ascending Binary) (column a 2) (column b 2)) Equal)) (led a b 1 second)
    ∙ ap (λ o. ordering_then o Equal) (ap₂ (by_key (ascending Binary)) x y ∙ numbers_rise p q less)

-- and with one in front by their second
pub rises_second : (a b : Row) (p q : ℕ) → column a 0 ≡ column b 0 → column a 1 ≡ Int (pos p) → column b 1 ≡ Int (pos q) → p < q → key_cmp 0 (rising 2 []) a b ≡ Less
rises_second a b p q first x y less =
    ap (λ o. ordering_then o (ordering_then (by_key (ascending Binary) (column a 1) (column b 1)) Equal)) (led a b 0 first)
    ∙ ap (λ o. ordering_then o Equal) (ap₂ (by_key (ascending Binary)) x y ∙ numbers_rise p q less)

-- of the orders of such rows one is sorted
pub one_order : (width : ℕ) (expected found : List Row) → IsAscending (λ a b. key_cmp 0 (rising width []) a b ≡ Less) expected → IsPermutation expected found → IsSorted (key_cmp 0 (rising width [])) found → found ≡ expected
one_order width expected found rises these sorted = sorted_unique (key_cmp 0 (rising width [])) (key_cmp_total (rising width []) 0) expected found rises these sorted

-- lines in the order of their places
module _ {X : Type 0} (row : ℕ → X → Row) (Less_than : Row → Row → Type 0) (rises : (p q : ℕ) (x y : X) → p < q → Less_than (row p x) (row q y)) where
  all_above : (p q : ℕ) (x : X) (xs : List X) → p < q → AllByRecursion (Less_than (row p x)) (map (λ l. row l.0 l.1) (enumerate_from q xs))
  all_above p q x [] less = tt
  all_above p q x (y ∷ xs) less = (rises p q x y less, all_above p (q + 1) x xs (omega arith))

  -- they rise
  pub lines_rise : (p : ℕ) (xs : List X) → IsAscending Less_than (map (λ l. row l.0 l.1) (enumerate_from p xs))
  lines_rise p [] = tt
  lines_rise p (x ∷ xs) = (all_above p (p + 1) x xs (omega arith), lines_rise (p + 1) xs)

-- lines that are read one by one are read back
module _ {X : Type 0} (row : ℕ → X → Row) (read : Row → Option X) (IsTold : X → Type 0) (back : (p : ℕ) (x y : X) → IsTold x → Some y ≡ read (row p x) → y ≡ x) where
  pub lines_back : (p : ℕ) (xs ys : List X) → AllByRecursion IsTold xs → map Some ys ≡ map read (map (λ l. row l.0 l.1) (enumerate_from p xs)) → ys ≡ xs
  lines_back p [] [] told e = refl
  lines_back p [] (y ∷ ys) told e = absurd (let h = e in cc)
  lines_back p (x ∷ xs) [] told e = absurd (let h = e in cc)
  lines_back p (x ∷ xs) (y ∷ ys) told e =
      let head : Some y ≡ read (row p x) = cc in
      let tail : map Some ys ≡ map read (map (λ l. row l.0 l.1) (enumerate_from (p + 1) xs)) = cc in
      ap₂ (λ z zs. z ∷ zs) (back p x y told.0 head) (lines_back (p + 1) xs ys told.1 tail)

-- rows of a number in their second column
abbrev pub is_numbered : ℕ → Row → Bool
is_numbered n row = n == whole_number_at 1 row

module _ (f : ℕ → List Row) (own : (k : ℕ) → AllByRecursion (λ row. whole_number_at 1 row ≡ k) (f k)) (n : ℕ) where
  all_kept : (k : ℕ) → n ≡ k → (rows : List Row) → AllByRecursion (λ row. whole_number_at 1 row ≡ k) rows → filter (is_numbered n) rows ≡ rows
  all_kept k e rows all =
      filter_all (is_numbered n) rows (all_weaker (λ row. whole_number_at 1 row ≡ k) (λ row. is_numbered n row ≡ true) (λ row at. eq-eqb n (whole_number_at 1 row) (e ∙ sym at)) rows all)

  none_kept : (k : ℕ) → (n ≡ k → ⊥) → (rows : List Row) → AllByRecursion (λ row. whole_number_at 1 row ≡ k) rows → filter (is_numbered n) rows ≡ []
  none_kept k apart rows all =
      filter_none (is_numbered n) rows (all_weaker (λ row. whole_number_at 1 row ≡ k) (λ row. is_numbered n row ≡ false) (λ row at. ne_eqb n (whole_number_at 1 row) (λ e. apart (e ∙ at))) rows all)

  -- no row of a number that is not among some
  pub none_among : (ns : List ℕ) → is_one_of ns n ≡ false → filter (is_numbered n) (flat_map f ns) ≡ []
  none_among [] h = refl
  none_among (k ∷ ns) h =
      filter-append (is_numbered n) (f k) (flat_map f ns)
      ∙ ap₂ ◌++◌ (none_kept k (λ e. false≢true (sym h ∙ subst (λ (m : ℕ). is_one_of (k ∷ ns) m ≡ true) (sym e) (is_first k ns))) (f k) (own k)) (none_among ns (or_parts (k == n) (is_one_of ns n) h).1)

  -- and those of one that is, where they ascend
  pub those_of : (low high : ℕ) (ns : List ℕ) → Ascends low ns high → is_one_of ns n ≡ true → filter (is_numbered n) (flat_map f ns) ≡ f n
  those_of low high [] rise h = absurd (false≢true h)
  those_of low high (k ∷ ns) rise h = filter-append (is_numbered n) (f k) (flat_map f ns) ∙ by_case (k == n) refl h (those_of k high ns rise.1)
    where
      behind : k ≡ n → is_one_of ns n ≡ false
      behind same = false_from_ne_true (is_one_of ns n) (λ is. let above = (ascends_bounds k high ns n rise.1 is).0 in absurd (omega (arith, above, same)))

      by_case : (x : Bool) → (k == n) ≡ x → (x || is_one_of ns n) ≡ true → (is_one_of ns n ≡ true → filter (is_numbered n) (flat_map f ns) ≡ f n) → filter (is_numbered n) (f k) ++ filter (is_numbered n) (flat_map f ns) ≡ f n
      by_case true e one later =
          let here : k ≡ n = eqb-true k n e in
          ap₂ ◌++◌ (all_kept k (sym here) (f k) (own k)) (none_among ns (behind here))
          ∙ append-nil (f k) ∙ ap f here
      by_case false e one later = ap₂ ◌++◌ (none_kept k (λ same. false≢true (sym e ∙ eq-eqb k n (sym same))) (f k) (own k)) (later one)
