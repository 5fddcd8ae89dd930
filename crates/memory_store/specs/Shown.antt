-- What a store shows whose rows are kept apart from the list of its trees.
use Rattle.std.specs.Prelude.{◌≡◌, ◌≢◌, false, ℕ, List, [], ◌∷◌, Option, ⊤}
use Rattle.sqlite_value.specs.Order.{Row}
use Rattle.sqlite_trees.specs.declared.store.Shape.{Shape}
use Rattle.sqlite_trees.specs.Tree.{Trees, with_tree}
use Rattle.sqlite_trees.specs.View.{Snapshot, View, IsShaped}
use Rattle.sqlite_trees.specs.Objects.{catalog_tree, version_tree}

-- the list of trees and the version of the one, and the rows of the other
abbrev pub over : Trees → Trees → Trees
over listed rows = with_tree (with_tree rows catalog_tree (listed catalog_tree)) version_tree (listed version_tree)

-- a savepoint with these rows
abbrev pub shown_mark : Snapshot → Trees → Snapshot
shown_mark mark rows = record mark { trees = over mark.trees rows }

-- savepoints with the rows of each
abbrev pub shown_marks : List Snapshot → List Trees → List Snapshot
shown_marks [] rows = []
shown_marks (mark ∷ marks) [] = []
shown_marks (mark ∷ marks) (rows ∷ more) = shown_mark mark rows ∷ shown_marks marks more

-- what is shown of a list of trees, with the rows of a transaction, of the last commit, of the cursors and of the savepoints
abbrev pub shown_over : View → Trees → Trees → (ℕ → Option (List Row)) → List Trees → View
shown_over v rows kept cursors marks = record v {
  trees = over v.trees rows;
  committed = over v.committed kept;
  cursors = cursors;
  marks = shown_marks v.marks marks;
}

-- the rows of each tree have its shape
abbrev pub AreShaped : (ℕ → Shape) → Trees → Type 0
AreShaped shape rows = (t : ℕ) → t ≢ catalog_tree → t ≢ version_tree → IsShaped (shape t) (rows t)

-- the rows of each savepoint have its shapes, and there are rows for each
abbrev pub AreMarksShaped : List Snapshot → List Trees → Type 0
AreMarksShaped [] [] = ⊤
AreMarksShaped [] (rows ∷ more) = ⊥
AreMarksShaped (mark ∷ marks) [] = ⊥
AreMarksShaped (mark ∷ marks) (rows ∷ more) = AreShaped mark.shape rows × AreMarksShaped marks more

-- all rows that a store may show have their shapes, but those of a transaction that is broken
pub record AreAllShaped (v : View) (rows kept : Trees) (marks : List Trees) : Type 0 where
  pub now : v.is_broken ≡ false → AreShaped v.shape rows
  pub committed : AreShaped v.committed_shape kept
  pub savepoints : AreMarksShaped v.marks marks
