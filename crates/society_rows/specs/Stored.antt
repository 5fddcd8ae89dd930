-- What the tables hold, as rows of values, and what a statement makes of it.
use Rattle.std.specs.Prelude.{◌≡◌, ◌≢◌, Bool, true, not, List, ◌∷◌, ◌++◌, length, map, filter, IsPermutation}
use Rattle.std.specs.List.{AllByRecursion, range_with_len}
use Rattle.sqlite_value.specs.declared.value.Value.{Value}
use Rattle.sqlite_value.specs.declared.keys.Collation.TheVariants.{Binary}
use Rattle.sqlite_value.specs.Order.{Row, column}
use Rattle.sqlite_trees.specs.Tree.{Trees, rowid}
use Rattle.sqlite_trees.specs.View.{is_int}
use Rattle.sqlite_schema.specs.declared.schema.Table.{Table}
use Rattle.sqlite_schema.specs.Names.{place_of}
use Rattle.sqlite_schema.specs.Rules.{equal}
use Rattle.sqlite.specs.Effect.{Database}
use Rattle.society_rows.specs.Layout.{all_tables}
use Rattle.society_rows.specs.Layouts.{HasFirst}

-- the values of a stored row, a column each
abbrev pub values_of : Table → Row → Row
values_of table row = map (λ at. column row (place_of table at)) (range_with_len 0 (length table.columns))

-- the rows of a table; their order says nothing
abbrev pub rows_in : Table → Trees → List Row
rows_in table db = map (values_of table) (db table.tree)

-- the database has the fourteen tables of layout 3, and nothing else
abbrev pub HasLayout : Database → Type 0
HasLayout = HasFirst 14

-- each row has a whole number as its rowid
abbrev pub AreNumbered : Table → Trees → Type 0
AreNumbered table db = AllByRecursion (λ r. is_int (rowid r) ≡ true) (db table.tree)

-- every other table is as it was
abbrev pub KeepsOthers : Table → Trees → Trees → Type 0
KeepsOthers table old new = AllByRecursion (λ t. t.tree ≢ table.tree → new t.tree ≡ old t.tree) all_tables

-- the table has exactly these rows more
pub record Adds (table : Table) (more : List Row) (old new : Database) : Type 0 where
  pub layout : HasLayout new
  pub rows : IsPermutation (more ++ rows_in table old.trees) (rows_in table new.trees)
  pub numbered : AreNumbered table old.trees → AreNumbered table new.trees
  pub others : KeepsOthers table old.trees new.trees

-- the first column is this value, as SQL compares them
abbrev pub has_first : Value → Row → Bool
has_first key row = equal Binary (column row 0) key

-- the row, in place of any whose first column is the same
abbrev pub put_over : Row → List Row → List Row
put_over row rows = row ∷ filter (λ r. not (has_first (column row 0) r)) rows

-- the table has this row, in place of any whose first column is the same
pub record Puts (table : Table) (row : Row) (old new : Database) : Type 0 where
  pub layout : HasLayout new
  pub rows : AreNumbered table old.trees → IsPermutation (put_over row (rows_in table old.trees)) (rows_in table new.trees)
  pub numbered : AreNumbered table old.trees → AreNumbered table new.trees
  pub others : KeepsOthers table old.trees new.trees
