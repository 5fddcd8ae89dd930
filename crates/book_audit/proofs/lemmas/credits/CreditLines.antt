-- The lines of pools' credits in the table of credits.
use Rattle.std.proofs.Common.{◌≡◌, ◌∙◌, ◌+◌, ◌==◌, ◌&&◌, ◌<◌, ◌^◌, ℕ, pos, Bool, true, false, cond, List, [], ◌∷◌, Option, Some, None, is_some, refl, ap, sym, subst, arith, map, filter, IsPermutation}
use Rattle.std.specs.BTreeSet.{BTreeSet, contains}
use Rattle.std.specs.List.{AllByRecursion, enumerate_from, list_all}
use Rattle.std.specs.Ordering.{nat_cmp}
use Rattle.std.proofs.lemmas.Bool.{false≢true}
use Rattle.std.proofs.lemmas.Bool.Decides.{nat_tests}
use Rattle.std.proofs.lemmas.List.Sorted.{IsPermutation-refl, IsPermutation-sym}
use Rattle.pool_split.specs.declared.claim.Credit.{Credit}
use Rattle.share_rules.specs.declared.office.Office.{Office}
use Rattle.sqlite_trees.specs.Tree.{Trees}
use Rattle.sqlite_value.specs.Order.{Row}
use Rattle.sqlite_value.specs.declared.value.Value.TheVariants.{Int}
use Rattle.society_core.proofs.lemmas.Fronts.{first_holds}
use Rattle.society_core.specs.Book.{Book, is_applied, is_pool_entry, order_at, return_at}
use Rattle.society_core.specs.Orders.{Order}
use Rattle.society_core.specs.Pools.{credits_of}
use Rattle.society_core.specs.declared.return_key.ReturnKey.{ReturnKey}
use Rattle.society_rows.specs.Layout as layout
use Rattle.society_rows.specs.Reads.{Lists, has_key}
use Rattle.society_rows.specs.Stored.{rows_in}
use Rattle.society_book.specs.BookRows.{is_of_pool}
use Rattle.society_book.specs.Columns.{HasRows, whole_number_at}
use Rattle.society_book.specs.DerivedRows.{credit_row, credit_rows, credit_rows_by}
use Rattle.society_book.specs.Kept.{HoldsBook}
use Rattle.society_book.proofs.lemmas.rows_alike.RowLemmas.{all_rows}
use Rattle.society_book.proofs.lemmas.rows_alike.SortedRows.{lines_rise, one_order, rises_second}
use Rattle.society_book.proofs.lemmas.shown.CreditRows.{HasNumber, found_by_number}
use Rattle.work_ids.specs.Numbers.{is_pool_number}
use Rattle.book_audit.specs.Credits.{AreCreditsOfPools, HasCredits, IsCreditOf, credit_lines}

-- ---- the lines of a pool's credits begin with its number, and rise

lines_numbered : (q p : ℕ) (cs : List Credit) → AllByRecursion HasNumber (map (λ line. credit_row q line.0 line.1) (enumerate_from p cs))
lines_numbered q p [] = tt
lines_numbered q p (c ∷ cs) = (refl, lines_numbered q (p + 1) cs)

credits_numbered : (o : Office) (b : Book) (q : ℕ) (x : Option Order) → AllByRecursion HasNumber (credit_rows_by o b q x)
credits_numbered o b q None = tt
credits_numbered o b q (Some order) = lines_numbered q 0 (credits_of o b order)

-- what is found of a pool that an order closes are the lines of what it pays
pub credits_shown : (o : Office) (b : Book) (db : Trees) → HoldsBook o b db → (pool : ℕ) (order : Order) → order_at b pool ≡ Some order → (found : List Row) → Lists layout.credits_table (has_key (Int (pos pool) ∷ [])) 2 db found → found ≡ map (λ line. credit_row pool line.0 line.1) (enumerate_from 0 (credits_of o b order))
credits_shown o b db holds pool order is found lists =
    let these : IsPermutation (credit_rows_by o b pool (order_at b pool)) found = found_by_number pool layout.credits_table (credit_rows o b) 2 db found holds.derived.credits (λ q. credits_numbered o b q (order_at b q)) lists in
    one_order 2 (credit_lines pool (credits_of o b order)) found (lines_rise (credit_row pool) _ (λ k l x y less. rises_second (credit_row pool k x) (credit_row pool l y) k l refl refl refl less) 0 (credits_of o b order)) (subst (λ (x : Option Order). IsPermutation (credit_rows_by o b pool x) found) is these) lists.sorted

-- ---- rows that are of some pools

numbered_of : (pools : BTreeSet ℕ) (p : Row → Bool) (rows : List Row) → AllByRecursion (IsCreditOf pools) rows → AllByRecursion HasNumber (filter p rows)
numbered_of pools p [] all = tt
numbered_of pools p (row ∷ rows) all = by_case (p row) (numbered_of pools p rows all.1)
  where
    by_case : (x : Bool) → AllByRecursion HasNumber (filter p rows) → AllByRecursion HasNumber (cond x (row ∷ filter p rows) (filter p rows))
    by_case true later = (all.0.0, later)
    by_case false later = later

one_number : (p q : ℕ) → (p == q) ≡ true → p ≡ q
one_number p q same = grind (arith, nat_tests)

-- none is of another pool
none_of : (pools : BTreeSet ℕ) (q : ℕ) → contains nat_cmp pools q ≡ false → (rows : List Row) → AllByRecursion (IsCreditOf pools) rows → filter (is_of_pool 0 q) rows ≡ []
none_of pools q unknown [] all = refl
none_of pools q unknown (row ∷ rows) all = by_case (q == whole_number_at 0 row) refl (none_of pools q unknown rows all.1)
  where
    by_case : (x : Bool) → (q == whole_number_at 0 row) ≡ x → filter (is_of_pool 0 q) rows ≡ [] → cond x (row ∷ filter (is_of_pool 0 q) rows) (filter (is_of_pool 0 q) rows) ≡ []
    by_case false apart later = later
    by_case true same later = absurd (false≢true (sym unknown ∙ ap (contains nat_cmp pools) (one_number q (whole_number_at 0 row) same) ∙ all.0.1))

-- rows of these pools alone, of each of which there are the lines of what it pays, are those of the pools of a book
pub has_credit_rows : (o : Office) (b : Book) (db : Trees) (pools : BTreeSet ℕ) → AreCreditsOfPools pools db → ((q : ℕ) → contains nat_cmp pools q ≡ true → (order : Order) × (order_at b q ≡ Some order) × HasCredits q (credits_of o b order) db)
    → ((q : ℕ) → contains nat_cmp pools q ≡ false → order_at b q ≡ None) → HasRows (λ pool row. pool == whole_number_at 0 row) (credit_rows o b) (rows_in layout.credits_table db)
has_credit_rows o b db pools are each none q = by_case (contains nat_cmp pools q) refl
  where
    all : List Row
    all = rows_in layout.credits_table db

    by_case : (x : Bool) → contains nat_cmp pools q ≡ x → IsPermutation (credit_rows o b q) (filter (is_of_pool 0 q) all)
    by_case false unknown =
        subst (λ (l : List Row). IsPermutation l (filter (is_of_pool 0 q) all)) (sym (ap (credit_rows_by o b q) (none q unknown)))
        (subst (IsPermutation []) (sym (none_of pools q unknown all are)) (IsPermutation-refl []))
    by_case true known =
        let found = each q known in
        let lines = found.2 in
        let kept : ℕ → List Row = λ n. filter (is_of_pool 0 n) all in
        let listed : IsPermutation (kept q) lines.0 =
        found_by_number q layout.credits_table kept 2 db lines.0 (λ n. IsPermutation-refl (kept n)) (λ n. numbered_of pools (is_of_pool 0 n) all are) lines.1 in
        subst (λ (l : List Row). IsPermutation l (filter (is_of_pool 0 q) all)) (lines.2 ∙ sym (ap (credit_rows_by o b q) found.1))
        (IsPermutation-sym (filter (is_of_pool 0 q) all) lines.0 listed)

-- ---- tables that hold a book

own_pool : (row : Row) → is_of_pool 0 (whole_number_at 0 row) row ≡ true
own_pool row = grind (arith, nat_tests)

small_number : (n : ℕ) → is_pool_number n ≡ true → n < 2 ^ 32
small_number n is = grind (arith, nat_tests)

-- a pool that may stand in a book has a number of 32 bits
small_pool : (b : Book) (q : ℕ) (order : Order) → is_pool_entry b q order ≡ true → q < 2 ^ 32
small_pool b q order entry =
    let cuts = list_all (is_applied b) order.cut in
    let returns = list_all (λ (key : ReturnKey). is_some (return_at b key)) order.returns in
    small_number q (first_holds (is_pool_number q) cuts (first_holds (is_pool_number q && cuts) returns entry))

lines_of_one : (pools : BTreeSet ℕ) (q : ℕ) → contains nat_cmp pools q ≡ true → q < 2 ^ 32 → (p : ℕ) (cs : List Credit) → AllByRecursion (IsCreditOf pools) (map (λ line. credit_row q line.0 line.1) (enumerate_from p cs))
lines_of_one pools q known small p [] = tt
lines_of_one pools q known small p (c ∷ cs) = ((refl, known, small), lines_of_one pools q known small (p + 1) cs)

-- the lines of credits in tables that hold a book are of its pools
pub own_credits : (o : Office) (b : Book) (db : Trees) → HoldsBook o b db → (pools : BTreeSet ℕ) → ((q : ℕ) (order : Order) → order_at b q ≡ Some order → contains nat_cmp pools q ≡ true) → AreCreditsOfPools pools db
own_credits o b db holds pools known =
    all_rows (is_of_pool 0) (whole_number_at 0) own_pool (IsCreditOf pools) (credit_rows o b) (rows_in layout.credits_table db) holds.derived.credits (λ q. by_order q (order_at b q) refl)
  where
    by_order : (q : ℕ) (x : Option Order) → order_at b q ≡ x → AllByRecursion (IsCreditOf pools) (credit_rows_by o b q x)
    by_order q None is = tt
    by_order q (Some order) is = lines_of_one pools q (known q order is) (small_pool b q order (holds.sound.pools q order is)) 0 (credits_of o b order)
