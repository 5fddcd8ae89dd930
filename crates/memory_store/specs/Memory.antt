-- What the store in memory shows.
use Rattle.std.specs.Prelude.{◌≡◌, ℕ, if◌then◌else◌, ◌==◌, List, [], ◌∷◌, map, slice_index_or, Option, Some, None, option_map, IsTrue}
use Rattle.sqlite_value.specs.Order.{Row}
use Rattle.sqlite_trees.specs.declared.store.Shape.{Shape}
use Rattle.sqlite_trees.specs.declared.store.Shape.TheVariants.{Absent, Table, Index}
use Rattle.sqlite_trees.specs.declared.store.Store.{Ghosts}
use Rattle.sqlite_trees.specs.Tree.{Trees, rowid}
use Rattle.sqlite_trees.specs.View.{View, is_int}
use Rattle.sqlite_trees.specs.Memory.{memory_view}
use Rattle.memory_store.specs.declared.rows.SortedRows.{SortedRows}
use Rattle.memory_store.specs.declared.change.Change.{Change}
use Rattle.memory_store.specs.declared.change.Change.TheVariants.{Put, Delete, Insert, Remove, Clear}
use Rattle.memory_store.specs.declared.cursor.Cursor.{Cursor}
use Rattle.memory_store.specs.Log.{rows_at, rows_after, changed_or, left_of}
use Rattle.memory_store.specs.Shown.{shown_over}
use Rattle.memory_store.specs.declared.memory.MemoryStore.{MemoryStore}

-- the trees that the transaction sees
abbrev pub current : MemoryStore → List SortedRows
current s = changed_or s.changed s.kept.items

-- what each cursor has left to give
abbrev pub cursors_of : MemoryStore → ℕ → Option (List Row)
cursors_of s c = option_map (left_of (current s)) (slice_index_or s.cursors.items c None)

-- the rows at each savepoint
abbrev pub marked : MemoryStore → List Trees
marked s = map (rows_after s.kept.items s.log.items) s.marks.items

-- what the store shows
abbrev pub store_view : MemoryStore → View
store_view s = shown_over (memory_view s.catalog) (rows_at (current s)) (rows_at s.kept.items) (cursors_of s) (marked s)

-- one cursor is put at a place
abbrev pub SetsCursor : List (Option Cursor) → List (Option Cursor) → ℕ → Cursor → Type 0
SetsCursor old new at cursor = (c : ℕ) → slice_index_or new c None ≡ (if c == at then Some cursor else slice_index_or old c None)

-- the cursor gave this row and moved on, or was at its end
abbrev pub StepsOn : List SortedRows → Cursor → Row → Option Cursor → Type 0
StepsOn trees cursor row None = left_of trees cursor ≡ []
StepsOn trees cursor row (Some moved) = left_of trees cursor ≡ row ∷ left_of trees moved

-- all but the cursors is as it was
pub record KeepsRows (old new : MemoryStore) : Type 0 where
  pub rows : rows_at (current new) ≡ rows_at (current old)
  pub catalog : new.catalog ≡ old.catalog
  pub kept : new.kept ≡ old.kept
  pub log : new.log ≡ old.log
  pub marks : new.marks ≡ old.marks

-- a write that keeps the shape of its tree
abbrev pub Fits : Change → Shape → Type 0
Fits (Put row) shape = (shape ≡ Table) × IsTrue (is_int (rowid row))
Fits (Delete id) shape = shape ≡ Table
Fits (Insert order entry) shape = shape ≡ Index order
Fits (Remove order entry) shape = shape ≡ Index order
Fits Clear shape = shape ≡ Absent

-- the words of a store for this one
abbrev pub over_memory : Ghosts MemoryStore
over_memory = record { view = store_view; faults = λ _. 0; recovers = λ s db. db ≡ (store_view s).committed; is_shielded = λ _. Unit {0}; is_step = λ _ _ _. Unit {0}; blamed = λ _. None; names = λ _ _ _. Unit {0} }
