-- Rows that have the shapes of their trees keep them in each call.
use Rattle.std.proofs.Common.{◌≡◌, ◌≢◌, ℕ, List, [], refl, ◌∙◌, eq-eqb, ne_eqb, inl, inr}
use Rattle.std.proofs.lemmas.Bool.{cases_eq}
use Rattle.sqlite_value.specs.Order.{Row}
use Rattle.sqlite_trees.specs.declared.store.Shape.{Shape}
use Rattle.sqlite_trees.specs.declared.store.Shape.TheVariants.{Absent, Table, Index, Pageless, FrozenTable, FrozenIndex}
use Rattle.sqlite_trees.specs.Tree.{Trees, with_tree}
use Rattle.sqlite_trees.specs.View.{IsShaped}
use Rattle.sqlite_trees.specs.Objects.{set_at}
use Rattle.sqlite_trees.proofs.TreeLemmas.{IsShaped-put_row, IsShaped-filter, IsIndex-insert_entry}
use Rattle.memory_store.specs.declared.change.Change.{Change}
use Rattle.memory_store.specs.declared.change.Change.TheVariants.{Put, Delete, Insert, Remove, Clear}
use Rattle.memory_store.specs.Pieces.{changed}
use Rattle.memory_store.specs.Memory.{Fits}
use Rattle.memory_store.specs.Shown.{AreShaped}

-- no rows have every shape
pub none_shaped : (s : Shape) → IsShaped s []
none_shaped Absent = refl
none_shaped Table = (tt, tt)
none_shaped (Index o) = tt
none_shaped Pageless = refl
none_shaped FrozenTable = (tt, tt)
none_shaped (FrozenIndex o) = tt

pub changed_shaped : (change : Change) (s : Shape) (rows : List Row) → Fits change s → IsShaped s rows → IsShaped s (changed change rows)
changed_shaped (Put row) s rows fits h = rw fits.0 (IsShaped-put_row row rows fits.1 (rw fits.0 at h))
changed_shaped (Delete id) s rows fits h = IsShaped-filter s _ rows h
changed_shaped (Insert o entry) s rows fits h = rw fits (IsIndex-insert_entry o entry rows (rw fits at h))
changed_shaped (Remove o entry) s rows fits h = IsShaped-filter s _ rows h
changed_shaped Clear s rows fits h = none_shaped s

pub shaped_write : (shape : ℕ → Shape) (rows : Trees) (t : ℕ) (change : Change) → Fits change (shape t) → AreShaped shape rows → AreShaped shape (with_tree rows t (changed change (rows t)))
shaped_write shape rows t change fits h j a b = elim (cases_eq j t) [
  | inl same ↦ rw (same, eq-eqb t t refl) (changed_shaped change (shape t) (rows t) fits (h t (λ e. a (same ∙ e)) (λ e. b (same ∙ e))))
  | inr other ↦ rw (ne_eqb j t other) (h j a b)
]

-- a tree without rows gets a shape
pub shaped_object : (shape : ℕ → Shape) (rows now : Trees) (t : ℕ) (s : Shape) → ((j : ℕ) → j ≢ t → now j ≡ rows j) → now t ≡ [] → AreShaped shape rows → AreShaped (set_at shape t s) now
shaped_object shape rows now t s others none h j a b = elim (cases_eq j t) [
  | inl same ↦ rw (same, eq-eqb t t refl, none) (none_shaped s)
  | inr other ↦ rw (ne_eqb j t other, others j other) (h j a b)
]
