-- All rows of a table, by its name in code (representation).
use Rattle.std.specs.Prelude.{List, true}
use Rattle.sqlite_value.specs.Order.{Row}
use Rattle.sqlite_trees.specs.Tree.{Trees}
use Rattle.society_rows.specs.Reads.{Lists}
use Rattle.society_rows.specs.TableNames.{listing_width, table_called}
use Rattle.society_rows.specs.declared.tables.TableName.{TableName}

-- all rows of the table, by its key
abbrev pub ListsAll : TableName → Trees → List Row → Type 0
ListsAll table = Lists (table_called table) (λ _. true) (listing_width table)
