-- What the tables of an older layout stand for, and what becomes of them.
use Rattle.std.specs.Prelude.{◌≡◌, ◌≢◌, ℕ, pos, [], ◌∷◌, drop, take}
use Rattle.std.specs.List.{AllByRecursion}
use Rattle.share_rules.specs.Office.{name_of}
use Rattle.share_rules.specs.declared.office.Office.{Office}
use Rattle.sqlite.specs.Effect.{Database}
use Rattle.sqlite.specs.State as connection
use Rattle.sqlite_trees.specs.Tree.{Trees}
use Rattle.sqlite_value.specs.Order.{Row}
use Rattle.society_rows.specs.Layout.{all_tables, office as office_table}
use Rattle.society_rows.specs.Layouts.{number_of, tables_of}
use Rattle.society_rows.specs.Raising.{office_under}
use Rattle.society_rows.specs.Stored.{HasLayout, rows_in}
use Rattle.society_rows.specs.declared.older.OlderLayout.{OlderLayout}
use Rattle.society_book.specs.Kept.{HoldsOwnBook}

-- the row of an office under a layout: one, layout, society, territory, name
abbrev pub office_row_under : ℕ → Office → Row
office_row_under layout office = office_under (pos layout) (pos office.society) (pos office.territory) (name_of office)

-- the tables hold a sound book of the office, with exactly what is derived from it
abbrev pub HoldsOne : Office → Trees → Type 0
HoldsOne office db = ∥ HoldsOwnBook office db ∥₁

-- tables of layout 3 that older ones stand for: but for the office's row, which says its layout, each table that is there is the same,
-- and the two that no older layout has are empty, so that every pool is one of the performing right
pub record Becomes (layout : OlderLayout) (old new : Trees) : Type 0 where
  pub kept : AllByRecursion (λ t. t.tree ≢ office_table.tree → new t.tree ≡ old t.tree) (take (tables_of layout) all_tables)
  pub empty : AllByRecursion (λ t. new t.tree ≡ []) (drop 12 all_tables)

-- older tables are this office's, and stand for some that hold a sound book of it, with exactly what is derived from it
pub record HoldsOlder (office : Office) (layout : OlderLayout) (old : Trees) : Type 0 where
  pub registered : rows_in office_table old ≡ office_row_under (number_of layout) office ∷ []
  pub new : Trees
  pub stands : Becomes layout old new
  pub holds : HoldsOwnBook office new

-- older tables have become those of layout 3 that they stand for, and these hold such a book
abbrev pub Takes : Office → OlderLayout → Trees → Trees → Type 0
Takes office layout old new = Becomes layout old new × HoldsOne office new

-- a connection shows, as committed, what older tables of this office have become
pub record IsTakenOver (office : Office) (layout : OlderLayout) (old : Database) (s : connection.State) : Type 0 where
  pub registered : rows_in office_table old.trees ≡ office_row_under (number_of layout) office ∷ []
  pub takes : Takes office layout old.trees s.now.trees
  pub newest : HasLayout s.now
  pub committed : s.now ≡ s.committed
