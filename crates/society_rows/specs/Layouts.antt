-- The layouts. Their tables are the first ones of one list: six in layout 1, twelve in layout 2, all fourteen in layout 3 (profile).
use Rattle.std.specs.Prelude.{◌≡◌, ◌⊎◌, ℕ, List, [], ◌++◌, take, reverse, fold}
use Rattle.sqlite_schema.specs.declared.schema.Index.{Index}
use Rattle.sqlite_schema.specs.declared.schema.Reference.{Reference}
use Rattle.sqlite_schema.specs.declared.schema.Schema.{Schema}
use Rattle.sqlite_schema.specs.declared.schema.Table.{Table}
use Rattle.sqlite_catalog.specs.Change.{created}
use Rattle.sqlite.specs.Effect.{Database}
use Rattle.society_rows.specs.declared.older.OlderLayout.{OlderLayout}
use Rattle.society_rows.specs.declared.older.OlderLayout.TheVariants as older
use Rattle.society_rows.specs.declared.tables.TableName.{TableName}
use Rattle.society_rows.specs.Layout.{facts, no_schema, pool_cuts, pool_returns, tables_with}

-- the schema of so many of the first tables, with these references of cuts and of payments
abbrev pub schema_to : ℕ → List Reference → List Reference → Schema
schema_to count cuts payments = fold created no_schema (take count (tables_with cuts payments))

-- it is the schema of so many first tables, with these references of cuts, and with those of payments in either order
abbrev pub IsFirstWith : ℕ → List Reference → Schema → Type 0
IsFirstWith count cuts schema = (schema ≡ schema_to count cuts pool_returns.references) ⊎ (schema ≡ schema_to count cuts (reverse pool_returns.references))

-- The schema has so many of the first tables, and nothing else. A table that refers to two others may name them in either order: its
-- columns, its keys and its CHECK are the same.
unfoldable pub IsFirst : ℕ → Schema → Type 0
IsFirst count schema = IsFirstWith count pool_cuts.references schema ⊎ IsFirstWith count (reverse pool_cuts.references) schema

-- the database has so many of the first tables, and nothing else
abbrev pub HasFirst : ℕ → Database → Type 0
HasFirst count db = IsFirst count db.schema

-- how many tables an older layout has
abbrev pub tables_of : OlderLayout → ℕ
tables_of older.First = 6
tables_of older.Second = 12

-- its number, as the row of an office says it
abbrev pub number_of : OlderLayout → ℕ
number_of older.First = 1
number_of older.Second = 2

-- the database has the tables of an older layout, and nothing else
abbrev pub HasOlder : OlderLayout → Database → Type 0
HasOlder layout = HasFirst (tables_of layout)

-- so many of the first tables, with these references of cuts and of payments, and more tables and indexes
abbrev pub schema_from : ℕ → List Reference → List Reference → List Table → List Index → Schema
schema_from count cuts payments more indexes = record { tables = take count (tables_with cuts payments) ++ more; indexes = indexes; views = [] }

-- so many of the first tables are there, whatever is behind them
pub record HasTables (count : ℕ) (db : Database) : Type 0 where
  pub cuts : List Reference
  pub payments : List Reference
  pub more : List Table
  pub indexes : List Index
  pub is : db.schema ≡ schema_from count cuts payments more indexes

-- how many tables the first layout has that has this one
abbrev pub first_table_count : TableName → ℕ
first_table_count name = (facts name).since

-- the tables are there of the first layout that has this one
abbrev pub HasTable : TableName → Database → Type 0
HasTable table = HasTables (first_table_count table)
