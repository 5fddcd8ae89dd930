-- How the tables begin.
use Rattle.std.specs.Prelude.{◌≡◌, ◌≢◌, [], ◌∷◌}
use Rattle.std.specs.List.{AllByRecursion}
use Rattle.sqlite_value.specs.Order.{Row}
use Rattle.sqlite_trees.specs.Tree.{Trees}
use Rattle.sqlite.specs.Effect.{Database}
use Rattle.society_rows.specs.Layout.{all_tables, no_schema, office}
use Rattle.society_rows.specs.Stored.{rows_in, HasLayout}

-- the database has no table
abbrev pub IsBare : Database → Type 0
IsBare db = db.schema ≡ no_schema

-- every table is there, and empty
pub record IsEmptyBook (db : Database) : Type 0 where
  pub layout : HasLayout db
  pub empty : AllByRecursion (λ t. db.trees t.tree ≡ []) all_tables

-- the office has its row, and every other table is empty
pub record IsNewBook (row : Row) (db : Trees) : Type 0 where
  pub registered : rows_in office db ≡ row ∷ []
  pub empty : AllByRecursion (λ t. t.tree ≢ office.tree → db t.tree ≡ []) all_tables

-- the database is a new book of the office
pub record Begins (row : Row) (db : Database) : Type 0 where
  pub layout : HasLayout db
  pub book : IsNewBook row db.trees
