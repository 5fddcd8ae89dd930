-- What the orders of pools are to find: the lines of senders up to the numbers of their cuts, and the returns that they pay.
use Rattle.std.specs.Prelude.{ℕ, pos, ◌≡◌, ◌==◌, ◌&&◌, Bool, true, List, [], ◌∷◌, Some, filter, is_some, length}
use Rattle.std.specs.BTreeMap as tree
use Rattle.std.specs.List.{AllByRecursion, list_all}
use Rattle.share_rules.specs.declared.office.Office.{Office}
use Rattle.sqlite_trees.specs.Tree.{Trees}
use Rattle.sqlite_value.specs.Order.{Row}
use Rattle.sqlite_value.specs.declared.value.Value.TheVariants.{Int, Text}
use Rattle.society_core.specs.Book.{Book, IsSound, front, is_applied, return_at}
use Rattle.society_core.specs.Keys.{bytes_cmp}
use Rattle.society_core.specs.Orders.{IsOrder, Order}
use Rattle.society_core.specs.declared.return_key.ReturnKey.{ReturnKey}
use Rattle.society_core.specs.declared.transmission_key.TransmissionKey.{TransmissionKey}
use Rattle.society_rows.specs.Layout as layout
use Rattle.society_rows.specs.Reads.{has_key}
use Rattle.society_rows.specs.Stored.{rows_in}
use Rattle.society_book.specs.BookRows.{is_return_row, return_rows}
use Rattle.society_book.specs.Columns.{HasRows}
use Rattle.society_book.specs.DerivedRows.{front_rows, is_named}
use Rattle.society_book.specs.EndLists.{ReadsEnds}
use Rattle.society_book.specs.Sources.{KeepsSent}
use Rattle.work_ids.specs.Blanks.{without_trailing_blanks}
use Rattle.book_audit.specs.Pools.{AreOrdersOf, ListPools}
use Rattle.book_audit.specs.declared.pool_orders.ClosedPool.{ClosedPool}
use Rattle.book_audit.specs.declared.pool_tables.PoolRows.{PoolRows}
use Rattle.book_audit.specs.declared.reached.Reach.{Reach}
use Rattle.book_audit.specs.declared.reached.Reached.{Reached}

-- the tables have what the senders of a sound book sent, its returns, and how far each sender came
pub record HoldsLines (office : Office) (book : Book) (db : Trees) : Type 0 where
  pub sound : IsSound book
  pub sent : KeepsSent book db
  pub returns : HasRows is_return_row (return_rows book) (rows_in layout.returns db)
  pub fronts : HasRows is_named (front_rows office book) (rows_in layout.fronts db)

-- they have those of no book
abbrev pub HoldsNoLines : Trees → Type 0
HoldsNoLines db = (office : Office) (book : Book) → HoldsLines office book db → ⊥

-- something is said of every book of which they have them
abbrev pub OfLines : (Book → Type 0) → Trees → Type 0
OfLines Says db = (office : Office) (book : Book) → HoldsLines office book db → Says book

-- they are the ends and the front of a sender
abbrev pub IsReach : List ℕ → Trees → Reach → Type 0
IsReach sender db reach = ReadsEnds sender db reach.ends × OfLines (λ book. reach.front ≡ front book sender) db

-- so of each sender that is known
abbrev pub KnowsReach : Trees → Reached → Type 0
KnowsReach db reached = (sender : List ℕ) (reach : Reach) → tree.get bytes_cmp reached.by_sender sender ≡ Some reach → IsReach sender db reach

-- it is known of a sender
abbrev pub IsReachKnown : List ℕ → Reached → Type 0
IsReachKnown sender reached = is_some (tree.get bytes_cmp reached.by_sender sender) ≡ true

-- what was known is known still, and so is how far this sender came
abbrev pub LearnsReach : List ℕ → Reached → Reached → Trees → Type 0
LearnsReach sender old new db = KnowsReach db old → KnowsReach db new × IsReachKnown sender new

-- an answer is whether each number of a cut is in its sender's line
abbrev pub TellsCut : List TransmissionKey → Trees → Bool → Type 0
TellsCut cut db told = OfLines (λ book. told ≡ list_all (is_applied book) cut) db

-- an answer is whether each return is there
abbrev pub TellsReturns : List ReturnKey → Trees → Bool → Type 0
TellsReturns keys db told = OfLines (λ book. told ≡ list_all (λ key. is_some (return_at book key)) keys) db

-- the columns of a return's key
abbrev pub columns_of_return : ReturnKey → Row
columns_of_return key = Text (without_trailing_blanks key.reporter) ∷ Int (pos key.number) ∷ []

-- whether the tables have one row of a return that a pool pays
abbrev pub is_paid_once : Trees → ReturnKey → Bool
is_paid_once db key = length (filter (has_key (columns_of_return key)) (rows_in layout.pool_returns db)) == 1

-- an answer is whether each return is paid once
abbrev pub TellsPaid : List ReturnKey → Trees → Bool → Type 0
TellsPaid keys db told = told ≡ list_all (is_paid_once db) keys

-- whether an order can stand in a book: the numbers of its cut are in their senders' lines, and the returns that it pays are there, and each is paid once
abbrev pub can_stand : Book → Trees → Order → Bool
can_stand book db order = list_all (is_applied book) order.cut && (list_all (λ key. is_some (return_at book key)) order.returns && list_all (is_paid_once db) order.returns)

-- an answer is whether it can
abbrev pub TellsOrder : Order → Trees → Bool → Type 0
TellsOrder order db told = OfLines (λ book. told ≡ can_stand book db order) db

-- each of these orders can
abbrev pub CanStand : List ClosedPool → Book → Trees → Type 0
CanStand closed book db = AllByRecursion (λ (c : ClosedPool). can_stand book db c.order ≡ true) closed

-- they do in every book whose lines the tables have
abbrev pub OrdersStand : List ClosedPool → Trees → Type 0
OrdersStand closed db = OfLines (λ book. CanStand closed book db) db

-- they do in no such book
abbrev pub OrdersFall : List ClosedPool → Trees → Type 0
OrdersFall closed db = (office : Office) (book : Book) → HoldsLines office book db → CanStand closed book db → ⊥

-- these are the pools of a database, each with its order, and the orders can stand in every book whose lines the tables have
pub record FindsOrders (db : Trees) (closed : List ClosedPool) : Type 0 where
  pub rows : PoolRows
  pub listed : ListPools db rows
  pub are : AreOrdersOf rows closed
  pub stand : OrdersStand closed db
  pub kept : AllByRecursion (λ (c : ClosedPool). IsOrder c.order) closed
