-- What is written of a sender's line: its front, and the verdicts, the versions and the recordings of its transactions.
use Rattle.std.specs.Prelude.{◌≡◌, List, ◌++◌, IsPermutation, ◌≢◌}
use Rattle.std.specs.List.{AllByRecursion}
use Rattle.sqlite_value.specs.Order.{Row}
use Rattle.sqlite_trees.specs.Tree.{Trees}
use Rattle.society_rows.specs.Stored.{AreNumbered, put_over, rows_in}
use Rattle.society_rows.specs.Layout.{all_tables, fronts, recordings, verdicts, versions}

-- every table but those of fronts, verdicts, versions and recordings is as it was
abbrev pub KeepsUnlined : Trees → Trees → Type 0
KeepsUnlined old new =
    AllByRecursion (λ t. t.tree ≢ fronts.tree → t.tree ≢ verdicts.tree → t.tree ≢ versions.tree → t.tree ≢ recordings.tree → new t.tree ≡ old t.tree) all_tables

-- the tables have this row of a front in place of its sender's, and these rows of verdicts, of versions and of recordings more; the other tables are as they were
pub record PutsLine (front : Row) (judged told named : List Row) (old new : Trees) : Type 0 where
  pub put : AreNumbered fronts old → IsPermutation (put_over front (rows_in fronts old)) (rows_in fronts new)
  pub numbered : AreNumbered fronts old → AreNumbered fronts new
  pub verdicts : IsPermutation (judged ++ rows_in verdicts old) (rows_in verdicts new)
  pub versions : IsPermutation (told ++ rows_in versions old) (rows_in versions new)
  pub recordings : IsPermutation (named ++ rows_in recordings old) (rows_in recordings new)
  pub others : KeepsUnlined old new

-- every table but those of verdicts, versions and recordings is as it was
abbrev pub KeepsUntold : Trees → Trees → Type 0
KeepsUntold old new = AllByRecursion (λ t. t.tree ≢ verdicts.tree → t.tree ≢ versions.tree → t.tree ≢ recordings.tree → new t.tree ≡ old t.tree) all_tables

-- the tables have these rows of verdicts, of versions and of recordings more; the other tables are as they were
pub record AddsTold (judged told named : List Row) (old new : Trees) : Type 0 where
  pub verdicts : IsPermutation (judged ++ rows_in verdicts old) (rows_in verdicts new)
  pub versions : IsPermutation (told ++ rows_in versions old) (rows_in versions new)
  pub recordings : IsPermutation (named ++ rows_in recordings old) (rows_in recordings new)
  pub others : KeepsUntold old new
