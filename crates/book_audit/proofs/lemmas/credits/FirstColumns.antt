-- The pools of the lines of credits, by the first columns of these.
use Rattle.std.proofs.Common.{ℕ, List, [], ◌∷◌, map}
use Rattle.std.specs.BTreeSet.{BTreeSet}
use Rattle.std.specs.List.{AllByRecursion}
use Rattle.std.proofs.lemmas.List.Sorted.{IsPermutation-sym}
use Rattle.sqlite_trees.proofs.ListLemmas.{all-permutation}
use Rattle.sqlite_trees.specs.Tree.{Trees}
use Rattle.sqlite_value.specs.Order.{Row}
use Rattle.society_rows.specs.Layout as layout
use Rattle.society_rows.specs.FirstColumns.{ListsFirstColumn, first_of}
use Rattle.society_rows.specs.Stored.{rows_in}
use Rattle.society_rows.specs.declared.derived_tables.DerivedTable.TheVariants.{Credits}
use Rattle.book_audit.specs.Credits.{AreCreditsOfPools, IsCreditOf}

-- the first column of each line of credits
abbrev first_columns : Trees → List Row
first_columns db = map first_of (rows_in layout.credits_table db)

-- what was listed is of these pools where the table is
pub these_listed : (pools : BTreeSet ℕ) (db : Trees) (found : List Row) → ListsFirstColumn Credits db found → AllByRecursion (IsCreditOf pools) found → AreCreditsOfPools pools db
these_listed pools db found lists all = back (rows_in layout.credits_table db) (all-permutation (IsCreditOf pools) found (first_columns db) (IsPermutation-sym (first_columns db) found lists) all)
  where
    back : (rows : List Row) → AllByRecursion (IsCreditOf pools) (map first_of rows) → AllByRecursion (IsCreditOf pools) rows
    back [] every = tt
    back (row ∷ rows) every = (every.0, back rows every.1)

-- and the other way
pub listed_these : (pools : BTreeSet ℕ) (db : Trees) (found : List Row) → ListsFirstColumn Credits db found → AreCreditsOfPools pools db → AllByRecursion (IsCreditOf pools) found
listed_these pools db found lists all = all-permutation (IsCreditOf pools) (first_columns db) found lists (on (rows_in layout.credits_table db) all)
  where
    on : (rows : List Row) → AllByRecursion (IsCreditOf pools) rows → AllByRecursion (IsCreditOf pools) (map first_of rows)
    on [] every = tt
    on (row ∷ rows) every = (every.0, on rows every.1)
