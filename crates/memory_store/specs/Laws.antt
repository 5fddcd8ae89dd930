-- The laws of a store for the store in memory.
use Rattle.std.proofs.Common.{◌≡◌, ◌≢◌, ℕ, false, ne_eqb, inl, inr}
use Rattle.std.proofs.Math.Logic.{∥∥₁_elim}
use Rattle.std.proofs.lemmas.Bool.{cases_eq}
use Rattle.sqlite_trees.specs.Tree.{Trees}
use Rattle.sqlite_trees.specs.View.{IsOrdered}
use Rattle.sqlite_trees.specs.Objects.{catalog_tree, version_tree, IsListed}
use Rattle.sqlite_trees.specs.Props.{IsShaped-prop}
use Rattle.sqlite_trees.specs.Memory.{memory_view, memory_is_ordered, memory_is_unaltered, memory_is_listed}
use Rattle.memory_store.specs.Memory.{store_view, current}
use Rattle.memory_store.specs.declared.memory.MemoryStore.{MemoryStore}
use Rattle.memory_store.specs.Log.{rows_at}
use Rattle.memory_store.specs.Shown.{over}

-- what is beside the list of trees is shown as it is
pub over-at : (listed rows : Trees) (t : ℕ) → t ≢ catalog_tree → t ≢ version_tree → over listed rows t ≡ rows t
over-at listed rows t a b = rw (ne_eqb t version_tree b, ne_eqb t catalog_tree a)

pub store_is_ordered : (s : MemoryStore) → (store_view s).is_broken ≡ false → IsOrdered (store_view s).shape (store_view s).trees
store_is_ordered s sound t = elim (cases_eq t catalog_tree) [
  | inl same ↦ rw same (memory_is_ordered s.catalog catalog_tree)
  | inr other ↦ elim (cases_eq t version_tree) [
    | inl same ↦ rw same (memory_is_ordered s.catalog version_tree)
    | inr past ↦
        ∥∥₁_elim s.shaped (IsShaped-prop _ _) (λ h. rw (over-at (memory_view s.catalog).trees (rows_at (current s)) t other past) (h.now sound t other past))
  ]
]

pub store_is_listed : (s : MemoryStore) → IsListed ((store_view s).trees catalog_tree) (store_view s).shape (store_view s).reals
store_is_listed s = memory_is_listed s.catalog

pub store_is_unaltered : (s : MemoryStore) → (store_view s).trees catalog_tree ≡ (store_view s).committed catalog_tree
    → ((store_view s).shape ≡ (store_view s).committed_shape) × ((store_view s).reals ≡ (store_view s).committed_reals)
store_is_unaltered s = memory_is_unaltered s.catalog
