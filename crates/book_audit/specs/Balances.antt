-- What accounts have come to by credits, and the rows of the table of balances.
use Rattle.std.specs.Prelude.{ℕ, ◌+◌, ◌≡◌, pos, List, [], ◌∷◌, Option, None, Some, Vec, bytes_eq, filter, if◌then◌else◌, unwrap_or}
use Rattle.std.specs.BTreeMap as tree
use Rattle.std.specs.BTreeMap.{BTreeMap}
use Rattle.std.specs.Cmp.Lexicographic.{slice_cmp}
use Rattle.std.specs.Ordering.{nat_cmp}
use Rattle.std.specs.declared.alloc.Global.{Global}
use Rattle.pool_split.specs.declared.claim.Credit.{Credit}
use Rattle.sqlite_trees.specs.Tree.{Trees}
use Rattle.sqlite_value.specs.declared.value.Value.TheVariants.{Int, Text}
use Rattle.sqlite_value.specs.Order.{Row}
use Rattle.society_rows.specs.Layout as layout
use Rattle.society_rows.specs.Stored.{rows_in}
use Rattle.society_closings.specs.Closings.{row_of_account}
use Rattle.society_book.specs.BookRows.{row_of_some}
use Rattle.society_book.specs.Columns.{HasRows}
use Rattle.society_book.specs.DerivedRows.{is_named}
use Rattle.work_ids.specs.Account.{account_text}
use Rattle.book_audit.specs.declared.totals.Totals.{Totals}

-- the row of an account that has come to these units
abbrev pub balance_row : List ℕ → ℕ → Row
balance_row account units = Text account ∷ Int (pos units) ∷ []

-- the units at the text of an account
abbrev pub units_at : BTreeMap (Vec ℕ Global) ℕ → List ℕ → Option ℕ
units_at units account = tree.get_by (λ key. slice_cmp nat_cmp account key.items) units

-- these units are added to those at a text, and those at other texts are as they were
abbrev pub AddsToAccount : List ℕ → ℕ → BTreeMap (Vec ℕ Global) ℕ → BTreeMap (Vec ℕ Global) ℕ → Type 0
AddsToAccount account more old new = (other : List ℕ) → units_at new other ≡ if bytes_eq account other then Some (unwrap_or (units_at old account) 0 + more) else units_at old other

-- the units at a text are taken out, and those at other texts are as they were
abbrev pub TakesOut : List ℕ → BTreeMap (Vec ℕ Global) ℕ → BTreeMap (Vec ℕ Global) ℕ → Type 0
TakesOut account old new = (other : List ℕ) → units_at new other ≡ if bytes_eq account other then None else units_at old other

-- the row of an account by its units, no row where it has none
abbrev pub row_by_units : BTreeMap (Vec ℕ Global) ℕ → List ℕ → List Row
row_by_units units account = row_of_some (balance_row account) (units_at units account)

-- the credits to an account
abbrev pub to_account : List ℕ → List Credit → List Credit
to_account account credits = filter (λ credit. bytes_eq account (account_text credit.account)) credits

-- this is what each account has come to by these credits
abbrev pub AreTotalsOf : Totals → List Credit → Type 0
AreTotalsOf totals credits = (account : List ℕ) → row_by_units totals.units account ≡ row_of_account credits account

-- the rows of balances are exactly those by these credits
abbrev pub HasBalances : List Credit → Trees → Type 0
HasBalances credits db = HasRows is_named (row_of_account credits) (rows_in layout.balances db)

-- they are those by whatever credits accounts have come to this
abbrev pub FindsBalances : Totals → Trees → Type 0
FindsBalances totals db = (credits : List Credit) → AreTotalsOf totals credits → HasBalances credits db

-- they are those by no credits by which accounts have come to this
abbrev pub DeniesBalances : Totals → Trees → Type 0
DeniesBalances totals db = (credits : List Credit) → AreTotalsOf totals credits → HasBalances credits db → ⊥
