-- Pools that are closed, and the rows of them, of their cuts, of the returns that they pay and of their marks.
use Rattle.std.specs.Prelude.{ℕ, ◌≡◌, true, List, [], ◌∷◌, None, Some, filter, map}
use Rattle.std.specs.FinMap as finite
use Rattle.std.specs.Ordering.{nat_cmp}
use Rattle.sqlite_trees.specs.Tree.{Trees}
use Rattle.sqlite_value.specs.Order.{Row}
use Rattle.society_core.specs.Book.{Book, order_at}
use Rattle.society_core.specs.Orders.{Order, order_fault, order_of}
use Rattle.society_rows.specs.Listings.{ListsAll}
use Rattle.society_rows.specs.declared.tables.TableName.TheVariants as name
use Rattle.society_book.specs.BookRows.{cut_row, cut_rows, is_of_pool, kind_marked, marks_by, mechanical_rows, paid_row, paid_rows, pool_row, pool_rows, row_of_some, rows_of_order}
use Rattle.society_book.specs.Columns.{HasRows, text_at, whole_number_at}
use Rattle.work_ids.specs.Blanks.{fill}
use Rattle.work_ids.specs.Numbers.{is_pool_number}
use Rattle.book_audit.specs.declared.pool_orders.ClosedPool.{ClosedPool}
use Rattle.book_audit.specs.declared.pool_tables.PoolRows.{PoolRows}

-- they are all rows of pools, of cuts, of returns that are paid, and of marks
pub record ListPools (db : Trees) (rows : PoolRows) : Type 0 where
  pub pools : ListsAll name.Pools db rows.pools.items
  pub cuts : ListsAll name.PoolCuts db rows.cuts.items
  pub paid : ListsAll name.PoolReturns db rows.paid.items
  pub marks : ListsAll name.MechanicalPools db rows.marks.items

-- they are the rows of this book's pools, of their cuts, of the returns that they pay, and of their marks
pub record ArePools (book : Book) (rows : PoolRows) : Type 0 where
  pub pools : HasRows (is_of_pool 0) (pool_rows book) rows.pools.items
  pub cuts : HasRows (is_of_pool 0) (cut_rows book) rows.cuts.items
  pub paid : HasRows (is_of_pool 2) (paid_rows book) rows.paid.items
  pub marks : HasRows (is_of_pool 0) (mechanical_rows book) rows.marks.items

-- the sender and the number in a row of a cut
abbrev pub cut_pair : Row → List ℕ × ℕ
cut_pair row = (text_at 1 row, whole_number_at 2 row)

-- the reporter and the number in a row of a return that is paid
abbrev pub paid_pair : Row → List ℕ × ℕ
paid_pair row = (fill 20 (text_at 0 row), whole_number_at 1 row)

-- some pools and their orders, as a map
abbrev pub orders_by : List ClosedPool → finite.FinMap nat_cmp Order
orders_by closed = finite.from_entries (map (λ (c : ClosedPool). (c.pool, c.order)) closed)

-- the row of a pool, with the rows of all cuts, of all returns that are paid and of all marks, is that of this pool and its order
pub record IsClosedBy (rows : PoolRows) (row : Row) (closed : ClosedPool) : Type 0 where
  pub form : row ≡ pool_row closed.pool closed.order
  pub number : is_pool_number closed.pool ≡ true
  pub faultless : order_fault closed.order.amount (map cut_pair (filter (is_of_pool 0 closed.pool) rows.cuts.items)) (map paid_pair (filter (is_of_pool 2 closed.pool) rows.paid.items)) ≡ None
  pub order : closed.order ≡ order_of (kind_marked (filter (is_of_pool 0 closed.pool) rows.marks.items)) closed.order.amount (map cut_pair (filter (is_of_pool 0 closed.pool) rows.cuts.items)) (map paid_pair (filter (is_of_pool 2 closed.pool) rows.paid.items))

-- rows of pools are those of these, one after another
abbrev pub AreClosedBy : PoolRows → List Row → List ClosedPool → Type 0
AreClosedBy rows [] [] = Unit {0}
AreClosedBy rows (row ∷ more) (closed ∷ others) = IsClosedBy rows row closed × AreClosedBy rows more others
AreClosedBy rows _ _ = ⊥

-- the rows are those of these pools and of what their orders say, and of no others
pub record AreOrdersOf (rows : PoolRows) (closed : List ClosedPool) : Type 0 where
  pub pools : HasRows (is_of_pool 0) (λ q. row_of_some (pool_row q) (finite.get (orders_by closed) q)) rows.pools.items
  pub cuts : HasRows (is_of_pool 0) (λ q. rows_of_order (cut_row q) (λ order. order.cut) (finite.get (orders_by closed) q)) rows.cuts.items
  pub paid : HasRows (is_of_pool 2) (λ q. rows_of_order (paid_row q) (λ order. order.returns) (finite.get (orders_by closed) q)) rows.paid.items
  pub marks : HasRows (is_of_pool 0) (λ q. marks_by q (finite.get (orders_by closed) q)) rows.marks.items
  pub each : AreClosedBy rows rows.pools.items closed

-- the row is that of a pool of the book
pub record IsClosed (book : Book) (row : Row) : Type 0 where
  pub order : Order
  pub form : row ≡ pool_row (whole_number_at 0 row) order
  pub there : order_at book (whole_number_at 0 row) ≡ Some order
