-- The orders of a book that tables hold are those of the rows, and can stand in it.
use Rattle.std.proofs.Common.{◌≡◌, ◌∙◌, ◌&&◌, ◌||◌, ℕ, Bool, true, false, List, [], ◌∷◌, Some, filter, is_some, map, refl, ap, ap₂, subst, sym, IsPermutation}
use Rattle.std.proofs.lemmas.Bool.{false≢true}
use Rattle.std.proofs.lemmas.Bool.Decides.{Decides-eqb}
use Rattle.std.proofs.lemmas.List.Sorted.{IsPermutation-trans}
use Rattle.std.specs.List.{AllByRecursion, list_all, list_any}
use Rattle.sqlite_keyed.proofs.ListLemmas.{IsPermutation-filter}
use Rattle.share_rules.specs.declared.kind.Kind.{Kind}
use Rattle.share_rules.specs.declared.office.Office.{Office}
use Rattle.sqlite_trees.specs.Tree.{Trees}
use Rattle.sqlite_value.specs.Order.{Row}
use Rattle.society_core.proofs.lemmas.Fronts.{both_hold, first_holds, second_holds}
use Rattle.society_core.specs.Book.{Book, is_applied, order_at, return_at}
use Rattle.society_core.specs.Orders.{Order, names_return, order_of, same_return_key}
use Rattle.society_core.specs.declared.return_key.ReturnKey.{ReturnKey}
use Rattle.society_rows.specs.Layout as layout
use Rattle.society_rows.specs.Listings.{ListsAll}
use Rattle.society_rows.specs.Stored.{rows_in}
use Rattle.society_rows.specs.TableNames.{table_called}
use Rattle.society_rows.specs.declared.tables.TableName.{TableName}
use Rattle.society_rows.specs.declared.tables.TableName.TheVariants as name
use Rattle.society_book.specs.BookRows.{cut_rows, is_of_pool, mechanical_rows, paid_rows, pool_rows}
use Rattle.society_book.specs.Columns.{HasRows, whole_number_at}
use Rattle.society_book.proofs.lemmas.rows_alike.BookLemmas.{IsRefilled, third_holds}
use Rattle.society_book.proofs.lemmas.rows_alike.KeyRows.{both_same}
use Rattle.work_ids.specs.Numbers.{is_pool_number}
use Rattle.book_audit.specs.OwnRows.{HoldsReached}
use Rattle.book_audit.specs.Pools.{AreClosedBy, ArePools, IsClosed, IsClosedBy, ListPools, cut_pair, paid_pair}
use Rattle.book_audit.specs.Standing.{CanStand, HoldsLines, can_stand, is_paid_once}
use Rattle.book_audit.specs.declared.pool_orders.ClosedPool.{ClosedPool}
use Rattle.book_audit.specs.declared.pool_tables.PoolRows.{PoolRows}
use Rattle.book_audit.proofs.lemmas.orders.KnownRows.{all_closed}
use Rattle.book_audit.proofs.lemmas.orders.OrdersAgain.{amount_in, kind_given, order_again, refilled}
use Rattle.book_audit.proofs.lemmas.orders.PaidOnce.{one_row}

-- what a table has, a list of its rows has
pub listed_has : {K : Type 0} (is_of : K → Row → Bool) (expected : K → List Row) (xs ys : List Row) → HasRows is_of expected xs → IsPermutation xs ys → HasRows is_of expected ys
listed_has is_of expected xs ys has moved q = IsPermutation-trans (expected q) (filter (is_of q) xs) (filter (is_of q) ys) (has q) (IsPermutation-filter (is_of q) xs ys moved)

all_of : (rows : List Row) → filter (λ (_ : Row). true) rows ≡ rows
all_of [] = refl
all_of (row ∷ rows) = ap (λ (l : List Row). row ∷ l) (all_of rows)

pub listed_in : (table : TableName) (db : Trees) (rows : List Row) → ListsAll table db rows → IsPermutation (rows_in (table_called table) db) rows
listed_in table db rows lists = subst (λ (l : List Row). IsPermutation l rows) (all_of (rows_in (table_called table) db)) lists.rows

first_true : (x y : Bool) → x ≡ true → (x || y) ≡ true
first_true true y h = refl
first_true false y h = absurd (false≢true h)

second_true : (x y : Bool) → y ≡ true → (x || y) ≡ true
second_true true y h = refl
second_true false y h = h

module _ (o : Office) (b : Book) (db : Trees) (holds : HoldsReached o b db) where
  -- the tables have its lines
  pub lines_held : HoldsLines o b db
  lines_held = record {
    sound = holds.own.sound;
    sent = record { transmissions = holds.own.kept.transmissions; ends = holds.own.kept.ends };
    returns = holds.own.kept.returns;
    fronts = holds.fronts;
  }

  once_each : (pool : ℕ) (order : Order) → order_at b pool ≡ Some order → (ks : List ReturnKey) → ((k : ReturnKey) → list_any (λ x. same_return_key x k) ks ≡ true → names_return k order ≡ true) → AllByRecursion IsRefilled ks → list_all (is_paid_once db) ks ≡ true
  once_each pool order there [] names whole = refl
  once_each pool order there (k ∷ ks) names whole =
      both_hold (is_paid_once db k) (list_all (is_paid_once db) ks)
      ((Decides-eqb _ 1).1 (one_row b holds.own.sound (rows_in layout.pool_returns db) holds.own.kept.paid pool order there k (names k (first_true (same_return_key k k) (list_any (λ x. same_return_key x k) ks) (both_same k.reporter k.number))) whole.0))
      (once_each pool order there ks (λ x h. names x (second_true (same_return_key k x) (list_any (λ y. same_return_key y x) ks) h)) whole.1)

  -- the order of a pool can stand in it
  pub order_stands : (pool : ℕ) (order : Order) → order_at b pool ≡ Some order → can_stand b db order ≡ true
  order_stands pool order there =
      let entry = holds.own.sound.pools pool order there in
      both_hold (list_all (is_applied b) order.cut) _
      (second_holds (is_pool_number pool) (list_all (is_applied b) order.cut) (first_holds (is_pool_number pool && list_all (is_applied b) order.cut) (list_all (λ key. is_some (return_at b key)) order.returns) entry))
      (both_hold (list_all (λ key. is_some (return_at b key)) order.returns) (list_all (is_paid_once db) order.returns)
      (third_holds (is_pool_number pool) (list_all (is_applied b) order.cut) (list_all (λ key. is_some (return_at b key)) order.returns) entry)
      (once_each pool order there order.returns (λ k h. h) (refilled b holds.own.sound pool order there)))

  module _ (rows : PoolRows) (listed : ListPools db rows) where
    -- the rows are those of its pools
    pub are_pools : ArePools b rows
    are_pools = record {
      pools = listed_has (is_of_pool 0) (pool_rows b) (rows_in layout.pools db) rows.pools.items holds.own.kept.pools (listed_in name.Pools db rows.pools.items listed.pools);
      cuts = listed_has (is_of_pool 0) (cut_rows b) (rows_in layout.pool_cuts db) rows.cuts.items holds.own.kept.cuts (listed_in name.PoolCuts db rows.cuts.items listed.cuts);
      paid = listed_has (is_of_pool 2) (paid_rows b) (rows_in layout.pool_returns db) rows.paid.items holds.own.kept.paid (listed_in name.PoolReturns db rows.paid.items listed.paid);
      marks = listed_has (is_of_pool 0) (mechanical_rows b) (rows_in layout.mechanical_pools db) rows.marks.items holds.own.kept.mechanical (listed_in name.MechanicalPools db rows.marks.items listed.marks);
    }

    -- a row's pool and order are those of the book
    one_there : (row : Row) (one : ClosedPool) → IsClosedBy rows row one → IsClosed b row → order_at b one.pool ≡ Some one.order
    one_there row one by closed =
        let same : whole_number_at 0 row ≡ one.pool = ap (whole_number_at 0) by.form in
        let there : order_at b one.pool ≡ Some closed.order = ap (order_at b) (sym same) ∙ closed.there in
        let amount : one.order.amount ≡ closed.order.amount = let e = ap amount_in (sym by.form ∙ closed.form) in cc in
        let kind = kind_given b holds.own.sound one.pool closed.order there rows.marks.items are_pools.marks in
        let again = order_again b holds.own.sound one.pool closed.order there rows.cuts.items rows.paid.items are_pools.cuts are_pools.paid in
        there ∙ ap Some (sym (by.order ∙ ap₂ (λ (k : Kind) (n : ℕ). order_of k n (map cut_pair (filter (is_of_pool 0 one.pool) rows.cuts.items)) (map paid_pair (filter (is_of_pool 2 one.pool) rows.paid.items))) kind amount ∙ again))

    each_there : (pools : List Row) (closed : List ClosedPool) → AreClosedBy rows pools closed → AllByRecursion (IsClosed b) pools → AllByRecursion (λ (c : ClosedPool). order_at b c.pool ≡ Some c.order) closed
    each_there [] [] are all = tt
    each_there [] (one ∷ closed) are all = absurd are
    each_there (row ∷ pools) [] are all = absurd are
    each_there (row ∷ pools) (one ∷ closed) are all = (one_there row one are.0 all.0, each_there pools closed are.1 all.1)

    -- so is each
    pub all_there : (closed : List ClosedPool) → AreClosedBy rows rows.pools.items closed → AllByRecursion (λ (c : ClosedPool). order_at b c.pool ≡ Some c.order) closed
    all_there closed are = each_there rows.pools.items closed are (all_closed b rows.pools.items are_pools.pools)

    each_stands : (closed : List ClosedPool) → AllByRecursion (λ (c : ClosedPool). order_at b c.pool ≡ Some c.order) closed → CanStand closed b db
    each_stands [] all = tt
    each_stands (one ∷ closed) all = (order_stands one.pool one.order all.0, each_stands closed all.1)

    -- and they can stand in it
    pub all_stand : (closed : List ClosedPool) → AreClosedBy rows rows.pools.items closed → CanStand closed b db
    all_stand closed are = each_stands closed (all_there closed are)
