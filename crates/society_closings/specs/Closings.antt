-- What is written of a pool that is closed.
use Rattle.std.specs.Prelude.{ℕ, ◌≡◌, ◌≢◌, Bool, List, [], ◌∷◌, ◌++◌, None, IsPermutation, bytes_eq, filter, pos, map}
use Rattle.std.specs.List.{AllByRecursion, list_any, enumerate_from}
use Rattle.sqlite_trees.specs.Tree.{Trees}
use Rattle.sqlite_value.specs.Order.{Row}
use Rattle.society_rows.specs.Layout as layout
use Rattle.society_rows.specs.Layout.{all_tables, returns}
use Rattle.society_rows.specs.Stored.{Adds, rows_in}
use Rattle.pool_split.specs.declared.claim.Credit.{Credit}
use Rattle.share_rules.specs.declared.kind.Kind.{Kind}
use Rattle.share_rules.specs.declared.kind.Kind.TheVariants.{Performing, Mechanical}
use Rattle.share_rules.specs.declared.office.Office.{Office}
use Rattle.society_core.specs.Answers.{close_refusal}
use Rattle.society_core.specs.Book.{Book, order_at, with_pool}
use Rattle.society_core.specs.Candidates.{ReachesCut}
use Rattle.society_core.specs.Orders.{Order}
use Rattle.society_core.specs.Points.{is_performance_of, rows_named}
use Rattle.society_core.specs.Pools.{credits_of}
use Rattle.society_book.specs.BookRows.{mechanical_row, cut_row, marks_of, paid_row, pool_row}
use Rattle.society_book.specs.Sources.{HoldsWorks}
use Rattle.society_book.specs.DerivedRows.{balance_rows_by, credit_row}
use Rattle.society_book.specs.Kept.{HoldsBook}
use Rattle.society_closings.specs.CutWorks.{ListsWorks, wants_for}
use Rattle.society_closings.specs.Weighing.{AreWorksWeighed}
use Rattle.society_closings.specs.declared.pool_works.PoolWorks.{PoolWorks}
use Rattle.sqlite.specs.Effect.{Database}
use Rattle.work_ids.specs.Account.{account_text}
use Rattle.society_rows.specs.Balances.{AddsUnits}

-- the balances have the units of each credit more, one after another
abbrev pub AddsEach : List Credit → Database → Database → Type 0
AddsEach [] old new = new ≡ old
AddsEach (credit ∷ credits) old new = (mid : Database) × AddsUnits (account_text credit.account) (pos credit.units) old mid × AddsEach credits mid new

-- every table but those of the pools and of what they pay is as it was
abbrev pub KeepsLines : Trees → Trees → Type 0
KeepsLines old new =
    AllByRecursion (λ t. t.tree ≢ layout.pools.tree → t.tree ≢ layout.pool_cuts.tree → t.tree ≢ layout.pool_returns.tree → t.tree ≢ layout.mechanical_pools.tree → t.tree ≢ layout.credits_table.tree → t.tree ≢ layout.balances.tree → new t.tree ≡ old t.tree) all_tables

-- the tables have the rows of a pool more, with its cut, the returns that it pays, its marks and the lines of its credits; but for the balances the other tables are as they were
pub record AddsPool (pool : ℕ) (order : Order) (paid_out : List Credit) (old new : Trees) : Type 0 where
  pub pools : IsPermutation ((pool_row pool order ∷ []) ++ rows_in layout.pools old) (rows_in layout.pools new)
  pub cuts : IsPermutation (map (cut_row pool) order.cut ++ rows_in layout.pool_cuts old) (rows_in layout.pool_cuts new)
  pub paid : IsPermutation (map (paid_row pool) order.returns ++ rows_in layout.pool_returns old) (rows_in layout.pool_returns new)
  pub marks : IsPermutation (marks_of pool order.kind ++ rows_in layout.mechanical_pools old) (rows_in layout.mechanical_pools new)
  pub lines : IsPermutation (map (λ line. credit_row pool line.0 line.1) (enumerate_from 0 paid_out) ++ rows_in layout.credits_table old) (rows_in layout.credits_table new)
  pub others : KeepsLines old new

-- every table but those of an order is as it was
abbrev pub KeepsUnordered : Trees → Trees → Type 0
KeepsUnordered old new =
    AllByRecursion (λ t. t.tree ≢ layout.pools.tree → t.tree ≢ layout.pool_cuts.tree → t.tree ≢ layout.pool_returns.tree → t.tree ≢ layout.mechanical_pools.tree → new t.tree ≡ old t.tree) all_tables

-- the tables have this row of a pool more, and these rows of its cut, of the returns that it pays and of its marks; the other tables are as they were
pub record AddsOrder (row : Row) (cut paid marked : List Row) (old new : Trees) : Type 0 where
  pub pools : IsPermutation ((row ∷ []) ++ rows_in layout.pools old) (rows_in layout.pools new)
  pub cuts : IsPermutation (cut ++ rows_in layout.pool_cuts old) (rows_in layout.pool_cuts new)
  pub returns : IsPermutation (paid ++ rows_in layout.pool_returns old) (rows_in layout.pool_returns new)
  pub marks : IsPermutation (marked ++ rows_in layout.mechanical_pools old) (rows_in layout.mechanical_pools new)
  pub others : KeepsUnordered old new

-- a pool is marked where it pays the mechanical right; else nothing is done
abbrev pub Marks : ℕ → Kind → Database → Database → Type 0
Marks pool Performing old new = new ≡ old
Marks pool Mechanical old new = Adds layout.mechanical_pools (mechanical_row pool ∷ []) old new

-- the row of an account by some credits
abbrev pub row_of_account : List Credit → List ℕ → List Row
row_of_account credits account = balance_rows_by account (filter (λ credit. bytes_eq account (account_text credit.account)) credits)

-- credits that come to the same balances, those of 0 units too
abbrev pub ComeToTheSame : List Credit → List Credit → Type 0
ComeToTheSame some others = (account : List ℕ) → row_of_account some account ≡ row_of_account others account

-- the lines of credits of a pool, from this one on
abbrev pub lines_from : ℕ → ℕ → List Credit → List Row
lines_from pool first credits = map (λ line. credit_row pool line.0 line.1) (enumerate_from first credits)

-- the lines of these credits of a pool are added, from 0 on, and these totals come to the same balances
abbrev pub AddsLines : ℕ → List Credit → List Credit → Database → Database → Type 0
AddsLines pool credits totals old new = Adds layout.credits_table (lines_from pool 0 credits) old new × ComeToTheSame totals credits

-- the lines of these credits of a pool are added, and then the units that they come to
abbrev pub PaysOut : ℕ → List Credit → Database → Database → Type 0
PaysOut pool credits old new = (mid : Database) × (totals : List Credit) × AddsLines pool credits totals old mid × AddsEach totals mid new

-- a pool is closed in the tables, and to balances that were as before the units are added that its credits come to
abbrev pub ClosesWith : ℕ → Order → List Credit → Database → Database → Type 0
ClosesWith pool order credits old new =
    AddsPool pool order credits old.trees new.trees × (mid : Database) × (mid.trees layout.balances.tree ≡ old.trees layout.balances.tree) × (totals : List Credit) × ComeToTheSame totals credits × AddsEach totals mid new

-- tables that have what a pool is paid by, of a book in which the cut of an order is reached, pay these credits by it
abbrev pub PaysBy : Office → Order → Trees → List Credit → Type 0
PaysBy office order db credits = (book : Book) → HoldsWorks office book db → ReachesCut book order → credits ≡ credits_of office book order

-- whether a recording is one that the returns of an order report
abbrev pub is_reported : Book → Order → List ℕ → Bool
is_reported book order isrc = list_any (is_performance_of isrc) (rows_named book order)

-- the works are listed that an order looks for, by each book whose works the tables have, and what is weighed of them is so at this office
abbrev pub ListsOrder : Office → Order → Trees → PoolWorks → Type 0
ListsOrder office order db works =
    ((other : Office) (book : Book) → HoldsWorks other book db → ListsWorks (wants_for order.cut (is_reported book order)) db works.listed) × AreWorksWeighed office db works

-- where these are listed, the order pays these credits by the tables
abbrev pub PaysAmong : Office → Order → PoolWorks → Trees → List Credit → Type 0
PaysAmong office order works db credits = ListsOrder office order db works → PaysBy office order db credits

-- tables of an office that held a book in which a pool is not closed, and in which nothing refuses its order, hold the book with the pool
abbrev pub ClosesPool : Office → ℕ → Order → Trees → Trees → Type 0
ClosesPool office pool order old new =
    (book : Book) → HoldsBook office book old → order_at book pool ≡ None → close_refusal book order ≡ None → HoldsBook office (with_pool book pool order) new
