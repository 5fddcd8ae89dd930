-- What an audit finds of the lines of pools' credits.
use Rattle.std.specs.Prelude.{ℕ, pos, ◌≡◌, ◌<◌, ◌^◌, true, List, [], ◌∷◌, Some, Vec}
use Rattle.std.specs.BTreeSet.{BTreeSet, contains}
use Rattle.std.specs.List.{AllByRecursion}
use Rattle.std.specs.Ordering.{nat_cmp}
use Rattle.std.specs.declared.alloc.Global.{Global}
use Rattle.pool_split.specs.Credits.{credits_together}
use Rattle.pool_split.specs.declared.claim.Credit.{Credit}
use Rattle.share_rules.specs.declared.office.Office.{Office}
use Rattle.sqlite_trees.specs.Tree.{Trees}
use Rattle.sqlite_value.specs.declared.value.Value.TheVariants.{Int}
use Rattle.sqlite_value.specs.Order.{Row, column}
use Rattle.society_core.specs.Book.{Book, order_at}
use Rattle.society_core.specs.Orders.{Order}
use Rattle.society_rows.specs.Layout as layout
use Rattle.society_rows.specs.Reads.{Lists, has_key}
use Rattle.society_rows.specs.Stored.{rows_in}
use Rattle.society_book.specs.Columns.{whole_number_at}
use Rattle.society_book.specs.Kept.{HoldsBook}
use Rattle.society_closings.specs.Closings.{ListsOrder, PaysAmong, lines_from}
use Rattle.society_closings.specs.declared.pool_works.PoolWorks.{PoolWorks}

-- the tables hold no book of this office in which this order closes a pool, where the works are listed that it looks for
abbrev pub HasNoPool : Office → ℕ → Order → PoolWorks → Trees → Type 0
HasNoPool office pool order works db = ListsOrder office order db works → (book : Book) → HoldsBook office book db → order_at book pool ≡ Some order → ⊥

-- the lines of a pool's credits, from 0 on
abbrev pub credit_lines : ℕ → List Credit → List Row
credit_lines pool credits = lines_from pool 0 credits

-- the rows that the table of credits has of a pool are just the lines of these credits
abbrev pub HasCredits : ℕ → List Credit → Trees → Type 0
HasCredits pool credits db = (rows : List Row) × Lists layout.credits_table (has_key (Int (pos pool) ∷ [])) 2 db rows × (rows ≡ credit_lines pool credits)

-- so are they, and these are the credits that the pool pays by the tables, where the works are listed that it looks for
abbrev pub FindsCredits : Office → ℕ → Order → PoolWorks → Trees → Vec (List Credit) Global → Type 0
FindsCredits office pool order works db portions = HasCredits pool (credits_together portions.items) db × PaysAmong office order works db (credits_together portions.items)

-- the row begins with a whole number from 0, of 32 bits, that is the number of one of these pools
abbrev pub IsCreditOf : BTreeSet ℕ → Row → Type 0
IsCreditOf pools row = (column row 0 ≡ Int (pos (whole_number_at 0 row))) × (contains nat_cmp pools (whole_number_at 0 row) ≡ true) × (whole_number_at 0 row < 2 ^ 32)

-- so does each line of credits
abbrev pub AreCreditsOfPools : BTreeSet ℕ → Trees → Type 0
AreCreditsOfPools pools db = AllByRecursion (IsCreditOf pools) (rows_in layout.credits_table db)
