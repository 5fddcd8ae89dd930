-- The first columns of what is derived: whose each row is, a sender's or a pool's.
use Rattle.std.specs.Prelude.{ℕ, List, [], ◌∷◌, map, take, IsPermutation}
use Rattle.sqlite_value.specs.Order.{Row, column}
use Rattle.sqlite_trees.specs.Tree.{Trees}
use Rattle.sqlite_schema.specs.declared.schema.Table.{Table}
use Rattle.society_rows.specs.declared.derived_tables.DerivedTable.{DerivedTable}
use Rattle.society_rows.specs.declared.derived_tables.DerivedTable.TheVariants as name
use Rattle.society_rows.specs.Layout.{fronts, verdicts, versions, recordings, credits_table}
use Rattle.society_rows.specs.Stored.{rows_in}
use Rattle.society_rows.specs.TableNames.{column_names, select_text}

-- the table of that name
abbrev pub derived_table : DerivedTable → Table
derived_table name.Fronts = fronts
derived_table name.Verdicts = verdicts
derived_table name.Versions = versions
derived_table name.Recordings = recordings
derived_table name.Credits = credits_table

-- the query that shows the first column of every row, the sender or the pool, in any order
abbrev pub first_column_text : DerivedTable → List ℕ
first_column_text name = let table = derived_table name in select_text table (take 1 (column_names table))

-- a row's first column alone
abbrev pub first_of : Row → Row
first_of row = column row 0 ∷ []

-- the first column of each row of the table, in some order
abbrev pub ListsFirstColumn : DerivedTable → Trees → List Row → Type 0
ListsFirstColumn table db found = IsPermutation (map first_of (rows_in (derived_table table) db)) found
