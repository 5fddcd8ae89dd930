-- Tables that have the rows of a book stand for that book.
use Rattle.std.proofs.Common.{◌≡◌, ℕ, zero, suc, Bool, true, false, cond, ◌&&◌, ◌||◌, ◌==◌, List, [], ◌∷◌, Option, Some, None, refl, ap, ap₂, subst, sym, ◌∙◌, map, filter, is_some, IsPermutation, arith}
use Rattle.std.specs.FinMap.{find, from_entries, get-from_entries, same_map}
use Rattle.std.specs.FinMap as finite
use Rattle.std.specs.Cmp.{IsTotalOrder}
use Rattle.std.specs.List.{AllByRecursion, list_all, list_any}
use Rattle.std.proofs.lemmas.Bool.{false≢true}
use Rattle.society_core.proofs.lemmas.Fronts.{second_holds}
use Rattle.society_core.proofs.lemmas.SameOrders.{same_return_is}
use Rattle.work_ids.specs.Blanks.{fill, without_trailing_blanks}
use Rattle.work_ids.specs.Numbers.{is_pool_number}
use Rattle.std.specs.Ordering.{eq_by_cmp, is_eq, nat_cmp, ordering_then}
use Rattle.std.specs.declared.cmp.Ordering.{Ordering}
use Rattle.std.specs.declared.cmp.Ordering.TheVariants.{Less, Equal, Greater}
use Rattle.std.proofs.lemmas.Bool.Decides.{nat_tests}
use Rattle.std.proofs.lemmas.Cmp.{nat_cmp_total}
use Rattle.std.proofs.lemmas.List.Sorted.{IsPermutation-map, list_any-IsPermutation}
use Rattle.std.proofs.lemmas.Map.Text.{is_eq-slice_cmp}
use Rattle.sender_segments.specs.Ways.{End}
use Rattle.share_rules.specs.declared.kind.Kind.{Kind}
use Rattle.share_rules.specs.declared.kind.Kind.TheVariants.{Performing, Mechanical}
use Rattle.sqlite_trees.specs.Tree.{Trees}
use Rattle.sqlite_value.specs.declared.value.Value.TheVariants.{Int}
use Rattle.sqlite_value.specs.Order.{Row}
use Rattle.society_core.specs.Book.{Book, IsSound, is_applied, return_at, order_at}
use Rattle.society_core.specs.Keys.{ascending, bytes_cmp, return_cmp, segment_cmp, segment_key, transmission_cmp}
use Rattle.society_core.specs.Orders.{IsOrder, Order, same_return_key, same_transmission_key}
use Rattle.society_core.specs.declared.return_key.ReturnKey.{ReturnKey}
use Rattle.society_core.specs.declared.segment_key.SegmentKey.{SegmentKey}
use Rattle.society_core.specs.declared.transmission_key.TransmissionKey.{TransmissionKey}
use Rattle.society_core.proofs.lemmas.KeyOrders.{exact_numbers, exact_returns, exact_segments, exact_transmissions, returns_total, segments_total, transmissions_total}
use Rattle.society_rows.specs.Layout as layout
use Rattle.society_rows.specs.SegmentColumns.{segment_column}
use Rattle.society_rows.specs.Stored.{rows_in}
use Rattle.society_book.specs.BookRows.{AreOfBook, book_of, cut_key_of, cut_row, end_entry, end_of, end_row, is_end_row, is_of_pool, is_return_row, is_transmission_row, kind_marked, marks_by, marks_of, mechanical_row, order_in, paid_row, pool_entry, pool_row, return_entry, return_key_of, return_row, return_rows, row_of_some, rows_of_order, same_segment_key, segment_key_of, transmission_entry, transmission_key_of, transmission_row}
use Rattle.society_book.specs.Columns.{HasRows, segment_of_value, whole_number_at}
use Rattle.society_book.proofs.lemmas.rows_alike.RowLemmas.{map_of_rows, none_else, one_else, only}
use Rattle.sqlite_keyed.proofs.ListLemmas.{all_from_test, all_weaker, map_back}

-- two orders in turn tie where both do
both_tie : (a b : Ordering) → is_eq (ordering_then a b) ≡ (is_eq a && is_eq b)
both_tie Less b = refl
both_tie Equal b = refl
both_tie Greater b = refl

pub numbers_tie : (n m : ℕ) → is_eq (nat_cmp n m) ≡ (n == m)
numbers_tie n m = grind (arith, nat_tests)

pub transmissions_tie : (a b : TransmissionKey) → eq_by_cmp transmission_cmp a b ≡ same_transmission_key a b
transmissions_tie a b =
    both_tie (bytes_cmp a.sender b.sender) (nat_cmp a.number b.number) ∙ ap₂ (λ x y. x && y) (is_eq-slice_cmp a.sender b.sender) (numbers_tie a.number b.number)

pub segments_tie : (a b : SegmentKey) → eq_by_cmp segment_cmp a b ≡ same_segment_key a b
segments_tie a b =
    both_tie (bytes_cmp a.sender b.sender) (nat_cmp a.segment b.segment) ∙ ap₂ (λ x y. x && y) (is_eq-slice_cmp a.sender b.sender) (numbers_tie a.segment b.segment)

-- the place of a segment is read back from its column
column_back : (g : ℕ) → segment_of_value (Int (segment_column g)) ≡ g
column_back zero = refl
column_back (suc year) = refl

-- an end is read back from its row
pub end_back : (key : SegmentKey) (end : End) → end_of (end_row key end) ≡ end
end_back key end = ap (λ (g : ℕ). record { last = end.last; next = g }) (column_back end.next)

-- and so is its key
pub end_key_back : (key : SegmentKey) (end : End) → segment_key_of (end_row key end) ≡ key
end_key_back key end = ap (segment_key key.sender) (column_back key.segment)

pub returns_tie : (a b : ReturnKey) → eq_by_cmp return_cmp a b ≡ same_return_key a b
returns_tie a b =
    both_tie (bytes_cmp a.reporter b.reporter) (nat_cmp a.number b.number) ∙ ap₂ (λ x y. x && y) (is_eq-slice_cmp a.reporter b.reporter) (numbers_tie a.number b.number)

-- what a key has in a list of keys that all have one value
marked : {K : Type 0} (R : K → K → Ordering) (q : K) (keys : List K) → find R q (map (λ key. (key, true)) keys) ≡ cond (list_any (eq_by_cmp R q) keys) (Some true) None
marked R q [] = refl
marked {K} R q (key ∷ keys) =
    elim (eq_by_cmp R q key) as (λ b. cond b (Some true) (find R q (map {B = K × Bool} (λ k. (k, true)) keys)) ≡ cond (b || list_any (eq_by_cmp R q) keys) (Some true) None)
    [ true ↦ refl | false ↦ marked R q keys ]

-- keys in order are the same, whatever their order was
pub one_ascent : {K : Type 0} {R : K → K → Ordering} → IsTotalOrder R → finite.IsAntisymmetric R → (xs ys : List K) → IsPermutation xs ys → ascending R ys ≡ ascending R xs
one_ascent {R = R} total exact xs ys p =
    ap finite.keys
    (same_map total exact (from_entries {R = R} (map (λ key. (key, true)) ys)) (from_entries {R = R} (map (λ key. (key, true)) xs))
    (λ q. get-from_entries total (map (λ key. (key, true)) ys) q ∙ marked R q ys ∙ ap (λ b. cond b (Some true) None) (sym (list_any-IsPermutation (eq_by_cmp R q) xs ys p))
    ∙ sym (marked R q xs) ∙ sym (get-from_entries total (map (λ key. (key, true)) xs) q)))

pub cuts_back : (pool : ℕ) (keys : List TransmissionKey) → map cut_key_of (map (cut_row pool) keys) ≡ keys
cuts_back pool keys = map_back (cut_row pool) cut_key_of (λ key. refl) keys

-- the reporter is read back from its text
abbrev pub IsRefilled : ReturnKey → Type 0
IsRefilled key = fill 20 (without_trailing_blanks key.reporter) ≡ key.reporter

pub paid_back : (pool : ℕ) (keys : List ReturnKey) → AllByRecursion IsRefilled keys → map return_key_of (map (paid_row pool) keys) ≡ keys
paid_back pool [] h = refl
paid_back pool (key ∷ keys) h = ap₂ (λ r l. record { reporter = r; number = key.number } ∷ l) h.0 (paid_back pool keys h.1)

pub filter_true : {X : Type 0} (p : X → Bool) (xs : List X) → AllByRecursion (λ x. p x ≡ true) (filter p xs)
filter_true p [] = tt
filter_true {X} p (x ∷ xs) = go (p x) refl (filter_true p xs)
  where
    go : (b : Bool) → p x ≡ b → AllByRecursion (λ (z : X). p z ≡ true) (filter p xs) → AllByRecursion (λ (z : X). p z ≡ true) (cond b (x ∷ filter p xs) (filter p xs))
    go true e more = (e, more)
    go false e more = more

-- the reporter of a return that is kept is read back from its text
pub refilled : (book : Book) (rows : List Row) → HasRows is_return_row (return_rows book) rows → (key : ReturnKey) → is_some (return_at book key) ≡ true → IsRefilled key
refilled book rows has key there = kept (return_at book key) there (only (return_row key) (return_at book key) (filter (is_return_row key) rows) (has key))
  where
    kept : (o : Option (List ℕ)) → is_some o ≡ true → filter (is_return_row key) rows ≡ row_of_some (return_row key) o → IsRefilled key
    kept None never e = absurd (false≢true never)
    kept (Some body) here e =
        let passes : is_return_row key (return_row key body) ≡ true = (subst (AllByRecursion (λ r. is_return_row key r ≡ true)) e (filter_true (is_return_row key) rows)).0 in
        ap (λ (k : ReturnKey). k.reporter) (sym (same_return_is key (return_key_of (return_row key body)) passes))

pub all_refilled : (book : Book) (rows : List Row) → HasRows is_return_row (return_rows book) rows → (keys : List ReturnKey) → list_all (λ key. is_some (return_at book key)) keys ≡ true → AllByRecursion IsRefilled keys
all_refilled book rows has keys h =
    all_weaker (λ key. is_some (return_at book key) ≡ true) IsRefilled (refilled book rows has) keys (all_from_test (λ key. is_some (return_at book key)) keys h)

pub third_holds : (a b c : Bool) → (a && b && c) ≡ true → c ≡ true
third_holds a b c h = second_holds (a && b) c h

-- the right of a pool is read back from its marks
pub kind_back : (pool : ℕ) (kind : Kind) (marks : List Row) → IsPermutation (marks_of pool kind) marks → kind_marked marks ≡ kind
kind_back pool Performing marks same = ap kind_marked (none_else marks same)
kind_back pool Mechanical marks same = ap kind_marked (one_else (mechanical_row pool) marks same)

-- the order that the rows of a pool's cut, returns and marks make
order_back : (pool : ℕ) (order : Order) (o : Option Order) → o ≡ Some order → IsOrder order → AllByRecursion IsRefilled order.returns → (cuts paid marks : List Row) → IsPermutation (rows_of_order (cut_row pool) (λ x. x.cut) o) (filter (is_of_pool 0 pool) cuts) → IsPermutation (rows_of_order (paid_row pool) (λ x. x.returns) o) (filter (is_of_pool 2 pool) paid) → IsPermutation (marks_by pool o) (filter (is_of_pool 0 pool) marks) → order_in cuts paid marks pool order.amount ≡ order
order_back pool order o is kept refills cuts paid marks of_cut of_paid of_marks =
    let cut_rows : IsPermutation (map (cut_row pool) order.cut) (filter (is_of_pool 0 pool) cuts) = subst (λ (z : Option Order). IsPermutation (rows_of_order (cut_row pool) (λ x. x.cut) z) (filter (is_of_pool 0 pool) cuts)) is of_cut in
    let paid_rows : IsPermutation (map (paid_row pool) order.returns) (filter (is_of_pool 2 pool) paid) = subst (λ (z : Option Order). IsPermutation (rows_of_order (paid_row pool) (λ x. x.returns) z) (filter (is_of_pool 2 pool) paid)) is of_paid in
    let cut : ascending transmission_cmp (map cut_key_of (filter (is_of_pool 0 pool) cuts)) ≡ order.cut =
    one_ascent transmissions_total exact_transmissions (map cut_key_of (map (cut_row pool) order.cut)) (map cut_key_of (filter (is_of_pool 0 pool) cuts)) (IsPermutation-map cut_key_of (map (cut_row pool) order.cut) (filter (is_of_pool 0 pool) cuts) cut_rows)
    ∙ ap (ascending transmission_cmp) (cuts_back pool order.cut) ∙ kept.cut in
    let returns : ascending return_cmp (map return_key_of (filter (is_of_pool 2 pool) paid)) ≡ order.returns =
    one_ascent returns_total exact_returns (map return_key_of (map (paid_row pool) order.returns)) (map return_key_of (filter (is_of_pool 2 pool) paid)) (IsPermutation-map return_key_of (map (paid_row pool) order.returns) (filter (is_of_pool 2 pool) paid) paid_rows)
    ∙ ap (ascending return_cmp) (paid_back pool order.returns refills) ∙ kept.returns in
    let kind = kind_back pool order.kind (filter (is_of_pool 0 pool) marks) (subst (λ (z : Option Order). IsPermutation (marks_by pool z) (filter (is_of_pool 0 pool) marks)) is of_marks) in
    λ i. record { kind = kind i; amount = order.amount; cut = cut i; returns = returns i }

-- the reporters of the returns that a pool pays are read back from their texts
pub named_refilled : (book : Book) (rows : List Row) → HasRows is_return_row (return_rows book) rows → IsSound book → (pool : ℕ) (order : Order) → order_at book pool ≡ Some order → AllByRecursion IsRefilled order.returns
named_refilled book rows has sound pool order there = all_refilled book rows has order.returns (third_holds (is_pool_number pool) (list_all (is_applied book) order.cut) (list_all (λ key. is_some (return_at book key)) order.returns) (sound.pools pool order there))

-- tables that have the rows of a sound book stand for it
pub the_book : (book : Book) (db : Trees) → IsSound book → AreOfBook book db → book_of db ≡ book
unfolding book_of
the_book book db sound rows =
    let transmissions = map_of_rows transmissions_total exact_transmissions is_transmission_row transmission_entry (λ q r. transmissions_tie q (transmission_key_of r)) book.transmissions transmission_row (λ q x there. refl) (rows_in layout.transmissions db) rows.transmissions in
    let returns = map_of_rows returns_total exact_returns is_return_row return_entry (λ q r. returns_tie q (return_key_of r)) book.returns return_row (λ q x there. refl) (rows_in layout.returns db) rows.returns in
    let pools =
    map_of_rows nat_cmp_total exact_numbers (is_of_pool 0) (pool_entry (rows_in layout.pool_cuts db) (rows_in layout.pool_returns db) (rows_in layout.mechanical_pools db)) (λ q r. numbers_tie q (whole_number_at 0 r)) book.pools pool_row
    (λ q x there. order_back q x (order_at book q) there (sound.orders q x there) (named_refilled book (rows_in layout.returns db) rows.returns sound q x there) (rows_in layout.pool_cuts db) (rows_in layout.pool_returns db) (rows_in layout.mechanical_pools db) (rows.cuts q) (rows.paid q) (rows.mechanical q)) (rows_in layout.pools db) rows.pools in
    let ends = map_of_rows segments_total exact_segments is_end_row end_entry (λ q r. segments_tie q (segment_key_of r)) book.ends end_row (λ q x there. end_back q x) (rows_in layout.segment_ends db) rows.ends in
    λ i. record { transmissions = transmissions i; ends = ends i; returns = returns i; pools = pools i }
