-- What is written of what pools pay.
use Rattle.std.specs.Prelude.{ℕ, ◌≡◌, ◌≢◌, ◌++◌, List, [], ◌∷◌, IsPermutation, Vec, flat_map}
use Rattle.std.specs.List.{AllByRecursion}
use Rattle.std.specs.declared.alloc.Global.{Global}
use Rattle.pool_split.specs.Credits.{credits_together}
use Rattle.pool_split.specs.declared.claim.Credit.{Credit}
use Rattle.share_rules.specs.declared.office.Office.{Office}
use Rattle.sqlite_trees.specs.Tree.{Trees}
use Rattle.sqlite_value.specs.Order.{Row}
use Rattle.society_core.specs.Book.{Book}
use Rattle.society_core.specs.Orders.{Order}
use Rattle.society_core.specs.Pools.{credits_of}
use Rattle.society_rows.specs.Layout as layout
use Rattle.society_rows.specs.Layout.{all_tables}
use Rattle.society_rows.specs.Stored.{AreNumbered, KeepsOthers, rows_in}
use Rattle.society_book.specs.Kept.{HoldsOwnBook}
use Rattle.society_book.specs.Sources.{DerivesWorks, HoldsWorks}
use Rattle.society_closings.specs.Closings.{PaysAmong}
use Rattle.society_closings.specs.declared.pool_works.PoolWorks.{PoolWorks}
use Rattle.book_audit.specs.Balances.{AreTotalsOf, HasBalances, balance_row}
use Rattle.book_audit.specs.Credits.{credit_lines}
use Rattle.book_audit.specs.OwnRows.{HoldsReached}
use Rattle.book_audit.specs.Paying.{AreReachedIn, CannotPayAll, HoldsUnpaid, ListsForAll, credits_by}
use Rattle.book_audit.specs.declared.pool_orders.ClosedPool.{ClosedPool}
use Rattle.book_audit.specs.declared.totals.Totals.{Totals}
use Rattle.book_derivation.specs.Deriving.{HasNoMoney}

-- these lines of credits are added, and nothing else
pub record AddsCreditLines (lines : List Row) (old new : Trees) : Type 0 where
  pub rows : IsPermutation (lines ++ rows_in layout.credits_table old) (rows_in layout.credits_table new)
  pub others : KeepsOthers layout.credits_table old new

-- the lines of these credits of a pool are added, and nothing else
abbrev pub AddsCredits : ℕ → List Credit → Trees → Trees → Type 0
AddsCredits pool credits = AddsCreditLines (credit_lines pool credits)

-- these are the credits that a pool pays by the tables, where the works are listed that it looks for, and their lines are added
pub record WritesPool (office : Office) (pool : ℕ) (order : Order) (works : PoolWorks) (old new : Trees) (credits : List Credit) : Type 0 where
  pub pays : PaysAmong office order works old credits
  pub adds : AddsCredits pool credits old new

-- the credits of these portions are those that a pool pays so, and their lines are added
abbrev pub WritesPortions : Office → ℕ → Order → PoolWorks → Trees → Trees → Vec (List Credit) Global → Type 0
WritesPortions office pool order works old new portions = WritesPool office pool order works old new (credits_together portions.items)

-- the lines of all credits of closed pools by a book, one pool after another
abbrev pub lines_by : Office → Book → List ClosedPool → List Row
lines_by office book closed = flat_map (λ (c : ClosedPool). credit_lines c.pool (credits_of office book c.order)) closed

-- the lines of what closed pools pay are added, and nothing else, and this is what accounts have come to by them
pub record WritesCredits (office : Office) (closed : List ClosedPool) (old new : Trees) (totals : Totals) : Type 0 where
  pub others : KeepsOthers layout.credits_table old new
  pub lines : (book : Book) → HoldsWorks office book old → AreReachedIn book closed → IsPermutation (lines_by office book closed ++ rows_in layout.credits_table old) (rows_in layout.credits_table new)
  pub comes : (book : Book) → HoldsWorks office book old → AreReachedIn book closed → AreTotalsOf totals (credits_by office book closed)

-- so where the works are listed that each of them looks for
abbrev pub WritesListed : Office → List ClosedPool → PoolWorks → Trees → Trees → Totals → Type 0
WritesListed office closed works old new totals = ListsForAll office closed old works → WritesCredits office closed old new totals

-- then the tables have the works of no book out of which each of these pools can be paid
abbrev pub CannotPayListed : Office → List ClosedPool → PoolWorks → Trees → Type 0
CannotPayListed office closed works db = ListsForAll office closed db works → CannotPayAll office closed db

-- the balance of an account that has come to these units is added, and nothing else
pub record AddsBalance (account : List ℕ) (units : ℕ) (old new : Trees) : Type 0 where
  pub rows : IsPermutation (balance_row account units ∷ rows_in layout.balances old) (rows_in layout.balances new)
  pub numbered : AreNumbered layout.balances old → AreNumbered layout.balances new
  pub others : KeepsOthers layout.balances old new

-- what accounts have come to is written to a table that had nothing
pub record WritesBalances (totals : Totals) (old new : Trees) : Type 0 where
  pub others : KeepsOthers layout.balances old new
  pub has : (credits : List Credit) → AreTotalsOf totals credits → old layout.balances.tree ≡ [] → HasBalances credits new
  pub numbered : old layout.balances.tree ≡ [] → AreNumbered layout.balances new

-- every table but those of what pools pay is as it was
abbrev pub KeepsUnpaid : Trees → Trees → Type 0
KeepsUnpaid old new = AllByRecursion (λ t. t.tree ≢ layout.credits_table.tree → t.tree ≢ layout.balances.tree → new t.tree ≡ old t.tree) all_tables

-- the tables have the own rows of a sound book, and all that is derived of its lines
pub record HoldsLined (office : Office) (book : Book) (db : Trees) : Type 0 where
  pub reached : HoldsReached office book db
  pub works : DerivesWorks office book db

-- they have those of no book of this office
abbrev pub LacksLined : Office → Trees → Type 0
LacksLined office db = (book : Book) → HoldsLined office book db → ⊥

-- what the pools pay is written to tables that have all else of the book that they stand for, and nothing else is
pub record WritesMoney (office : Office) (old new : Trees) : Type 0 where
  pub others : KeepsUnpaid old new
  pub holds : HasNoMoney old → HoldsUnpaid office old → HoldsOwnBook office new
