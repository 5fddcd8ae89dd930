-- What closed pools pay, and what the tables are to have of it.
use Rattle.std.specs.Prelude.{ℕ, ◌==◌, ◌≡◌, List, [], ◌∷◌, None, Option, Some, map}
use Rattle.std.specs.BTreeSet.{BTreeSet, contains}
use Rattle.std.specs.FinMap as finite
use Rattle.std.specs.List.{AllByRecursion, flat_map, list_any}
use Rattle.std.specs.Ordering.{nat_cmp}
use Rattle.pool_split.specs.declared.claim.Credit.{Credit}
use Rattle.share_rules.specs.declared.office.Office.{Office}
use Rattle.sqlite_trees.specs.Tree.{Trees}
use Rattle.society_core.specs.Book.{Book, IsSound, order_at}
use Rattle.society_core.specs.Candidates.{CanBePaid, ReachesCut}
use Rattle.society_core.specs.Orders.{Order}
use Rattle.society_core.specs.Pools.{credits_of}
use Rattle.society_rows.specs.Layout as layout
use Rattle.society_rows.specs.Stored.{rows_in}
use Rattle.society_book.specs.BookRows.{book_of}
use Rattle.society_book.specs.Columns.{HasRows}
use Rattle.society_book.specs.DerivedRows.{front_rows, is_named, tells_recordings, tells_verdict, tells_version, told_to_front}
use Rattle.society_book.specs.Kept.{HoldsBook, HoldsOwnBook}
use Rattle.society_book.specs.Sources.{HasEnds, HoldsWorks, KeepsBodies}
use Rattle.society_closings.specs.Closings.{ListsOrder, is_reported}
use Rattle.society_closings.specs.CutWorks.{Wants}
use Rattle.society_closings.specs.declared.wanted.Wanted.{Wanted}
use Rattle.society_closings.specs.declared.pool_works.PoolWorks.{PoolWorks}
use Rattle.book_audit.specs.Audited.{IsNumbered, IsRegistered}
use Rattle.book_audit.specs.Balances.{AreTotalsOf, HasBalances}
use Rattle.book_audit.specs.Credits.{AreCreditsOfPools, HasCredits}
use Rattle.book_audit.specs.Pools.{orders_by}
use Rattle.book_audit.specs.declared.pool_orders.ClosedPool.{ClosedPool}
use Rattle.book_audit.specs.declared.totals.Totals.{Totals}

-- each of these pools is closed in a book, by its order
abbrev pub AreClosedIn : Book → List ClosedPool → Type 0
AreClosedIn book closed = AllByRecursion (λ (c : ClosedPool). order_at book c.pool ≡ Some c.order) closed

-- the tables hold no book of this office in which they are
abbrev pub LackPools : Office → List ClosedPool → Trees → Type 0
LackPools office closed db = (book : Book) → HoldsBook office book db → AreClosedIn book closed → ⊥

-- the cut of each order is reached in a book
abbrev pub AreReachedIn : Book → List ClosedPool → Type 0
AreReachedIn book closed = AllByRecursion (λ (c : ClosedPool). ReachesCut book c.order) closed

-- the lines of the credits of each pool are those of what it pays by a book
abbrev pub PayIn : Office → Book → Trees → List ClosedPool → Type 0
PayIn office book db closed = AllByRecursion (λ (c : ClosedPool). HasCredits c.pool (credits_of office book c.order) db) closed

-- all credits of these pools by a book, one pool after another
abbrev pub credits_by : Office → Book → List ClosedPool → List Credit
credits_by office book closed = flat_map (λ (c : ClosedPool). credits_of office book c.order) closed

-- so some of these pools pay, and this is what accounts have come to by them, in every book whose works the tables have and in which all cuts are reached
abbrev pub FindsPaid : Office → List ClosedPool → List ClosedPool → Trees → Totals → Type 0
FindsPaid office all some db totals =
    (book : Book) → HoldsWorks office book db → AreReachedIn book all → PayIn office book db some × AreTotalsOf totals (credits_by office book some)

-- the tables have the works of no book of this office out of which each of these pools can be paid
abbrev pub CannotPayAll : Office → List ClosedPool → Trees → Type 0
CannotPayAll office closed db = (book : Book) → HoldsWorks office book db → AllByRecursion (λ (c : ClosedPool). CanBePaid book c.order) closed → ⊥

-- nor of another
abbrev pub CannotPayAny : List ClosedPool → Trees → Type 0
CannotPayAny closed db = (office : Office) → CannotPayAll office closed db

-- what an order looks for is wanted, by each book whose works the tables have
abbrev pub WantsOrder : Order → Trees → Wanted → Type 0
WantsOrder order db wanted = (office : Office) (book : Book) → HoldsWorks office book db → Wants wanted order.cut (is_reported book order)

-- so of each of these pools
abbrev pub WantsAll : List ClosedPool → Trees → Wanted → Type 0
WantsAll closed db wanted = AllByRecursion (λ (c : ClosedPool). WantsOrder c.order db wanted) closed

-- the works are listed that each of these pools looks for
abbrev pub ListsForAll : Office → List ClosedPool → Trees → PoolWorks → Type 0
ListsForAll office closed db works = AllByRecursion (λ (c : ClosedPool). ListsOrder office c.order db works) closed

-- where the works are so listed, this is what accounts have come to by these pools
abbrev pub FindsPaidAmong : Office → List ClosedPool → PoolWorks → Trees → Totals → Type 0
FindsPaidAmong office closed works db totals = ListsForAll office closed db works → FindsPaid office closed closed db totals

-- where they are so listed, the tables hold no book of this office in which the pools are
abbrev pub LackPoolsAmong : Office → List ClosedPool → PoolWorks → Trees → Type 0
LackPoolsAmong office closed works db = ListsForAll office closed db works → LackPools office closed db

-- these are the numbers of the pools
abbrev pub AreNumbersOf : List ClosedPool → BTreeSet ℕ → Type 0
AreNumbersOf closed numbers = (pool : ℕ) → contains nat_cmp numbers pool ≡ list_any (λ (c : ClosedPool). pool == c.pool) closed

-- a book without its pools
abbrev pub unpaid : Book → Book
unpaid book = record { transmissions = book.transmissions; ends = book.ends; returns = book.returns; pools = finite.empty }

-- the tables hold all of the book that they stand for, and of what is derived of it, but what its pools are and pay
pub record HoldsUnpaid (office : Office) (db : Trees) : Type 0 where
  pub registered : IsRegistered office db
  pub sound : IsSound (unpaid (book_of db))
  pub bodies : KeepsBodies (book_of db) db
  pub ends : HasEnds (book_of db) db
  pub fronts : HasRows is_named (front_rows office (book_of db)) (rows_in layout.fronts db)
  pub verdicts : HasRows is_named (told_to_front tells_verdict office (book_of db)) (rows_in layout.verdicts db)
  pub versions : HasRows is_named (told_to_front tells_version office (book_of db)) (rows_in layout.versions db)
  pub recordings : HasRows is_named (told_to_front tells_recordings office (book_of db)) (rows_in layout.recordings db)
  pub numbered : IsNumbered db

-- where they do, they hold the whole book
abbrev pub CompletesBook : Office → Trees → Type 0
CompletesBook office db = HoldsUnpaid office db → HoldsOwnBook office db

-- the pools pay so in every book whose works the tables have, no line of credits is of another, and the balances are what their credits come to
pub record FindsPools (office : Office) (closed : List ClosedPool) (db : Trees) : Type 0 where
  pub numbers : BTreeSet ℕ
  pub these : AreNumbersOf closed numbers
  pub owners : AreCreditsOfPools numbers db
  pub paid : (book : Book) → HoldsWorks office book db → AreReachedIn book closed → PayIn office book db closed × HasBalances (credits_by office book closed) db

-- the order that a pool has among some
abbrev pub order_among : ℕ → List ClosedPool → Option Order
order_among pool closed = finite.find nat_cmp pool (map (λ (c : ClosedPool). (c.pool, c.order)) closed)

-- no pool is there twice
abbrev pub AreApart : List ClosedPool → Type 0
AreApart [] = Unit {0}
AreApart (c ∷ closed) = (order_among c.pool closed ≡ None) × AreApart closed

-- the tables hold no book of this office whose pools these are
abbrev pub DeniesPools : Office → List ClosedPool → Trees → Type 0
DeniesPools office closed db = (book : Book) → HoldsBook office book db → AreClosedIn book closed → ((pool : ℕ) → order_at book pool ≡ finite.get (orders_by closed) pool) → AreApart closed → ⊥
