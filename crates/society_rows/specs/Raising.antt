-- How a database of an older layout gets layout 3.
use Rattle.std.specs.Prelude.{◌≡◌, ◌≢◌, ℕ, ℤ, pos, List, [], ◌∷◌, take, drop}
use Rattle.std.specs.List.{AllByRecursion}
use Rattle.sqlite_value.specs.declared.value.Value.TheVariants.{Int, Text}
use Rattle.sqlite_value.specs.Order.{Row}
use Rattle.sqlite_trees.specs.Tree.{Trees}
use Rattle.sqlite.specs.Effect.{Database}
use Rattle.society_rows.specs.declared.older.OlderLayout.{OlderLayout}
use Rattle.society_rows.specs.Layout.{all_tables, office}
use Rattle.society_rows.specs.Layouts.{tables_of}
use Rattle.society_rows.specs.Stored.{HasLayout, KeepsOthers, rows_in}

-- all tables are there: so many first ones have the rows that they had, and those behind them are empty
pub record Extends (from : ℕ) (old new : Database) : Type 0 where
  pub layout : HasLayout new
  pub kept : AllByRecursion (λ t. new.trees t.tree ≡ old.trees t.tree) (take from all_tables)
  pub empty : AllByRecursion (λ t. new.trees t.tree ≡ []) (drop from all_tables)

-- the row of an office under a layout: one, layout, society, territory, name
abbrev pub office_under : ℤ → ℤ → ℤ → List ℕ → Row
office_under layout society territory name = Int (pos 1) ∷ Int layout ∷ Int society ∷ Int territory ∷ Text name ∷ []

-- where one office is told of, under whatever layout, it is under layout 3 now, and else as it was
abbrev pub SaysNewest : Trees → Trees → Type 0
SaysNewest old new =
    (layout society territory : ℤ) (name : List ℕ) → rows_in office old ≡ office_under layout society territory name ∷ [] → rows_in office new ≡ office_under (pos 3) society territory name ∷ []

-- the office is under layout 3, and every other table is as it was
pub record Renames (old new : Database) : Type 0 where
  pub layout : HasLayout new
  pub named : SaysNewest old.trees new.trees
  pub others : KeepsOthers office old.trees new.trees

-- the rows of an older layout have become those of layout 3: the office says so, every other table that was there has the rows that it had,
-- and the rest are empty
pub record Raises (from : OlderLayout) (old new : Trees) : Type 0 where
  pub named : SaysNewest old new
  pub kept : AllByRecursion (λ t. t.tree ≢ office.tree → new t.tree ≡ old t.tree) (take (tables_of from) all_tables)
  pub empty : AllByRecursion (λ t. new t.tree ≡ []) (drop (tables_of from) all_tables)

-- a database of an older layout has become one of layout 3
abbrev pub BecomesNewest : OlderLayout → Database → Database → Type 0
BecomesNewest from old new = HasLayout new × Raises from old.trees new.trees
