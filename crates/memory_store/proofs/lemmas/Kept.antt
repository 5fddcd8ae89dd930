-- What a store in memory always keeps, out of its truncated fields.
use Rattle.std.proofs.Common.{◌≡◌, List, [], ◌∷◌, ◌++◌, ℕ, map, length}
use Rattle.std.proofs.Math.Logic.{∥∥₁_elim}
use Rattle.std.proofs.lemmas.List.{map-append}
use mathlib.Core.HLevel.{Π_prop, ×_prop, Unit-prop}
use Rattle.sqlite_trees.specs.Tree.{Trees}
use Rattle.sqlite_trees.specs.View.{Snapshot}
use Rattle.sqlite_trees.specs.Props.{Trees-set, IsShaped-prop}
use Rattle.sqlite_trees.specs.declared.store.Shape.{Shape}
use Rattle.sqlite_trees.specs.Memory.{memory_view}
use Rattle.memory_store.specs.Log.{rows_at, replayed, rows_after}
use Rattle.memory_store.specs.Shown.{AreShaped, AreMarksShaped}
use Rattle.memory_store.specs.Memory.{current, marked}
use Rattle.memory_store.specs.declared.memory.MemoryStore.{MemoryStore}
use Rattle.memory_store.proofs.lemmas.Logs.{at_the_end}

-- the log leads from the last commit to what the transaction sees
pub led : (s : MemoryStore) → rows_at (current s) ≡ replayed s.log.items (rows_at s.kept.items)
led s = ∥∥₁_elim s.leads (Trees-set _ _) (λ h. h)

AreShaped-prop : (shape : ℕ → Shape) (rows : Trees) → IsProp (AreShaped shape rows)
AreShaped-prop shape rows = Π_prop (λ t. Π_prop (λ _. Π_prop (λ _. IsShaped-prop (shape t) (rows t))))

AreMarksShaped-prop : (ms : List Snapshot) (rs : List Trees) → IsProp (AreMarksShaped ms rs)
AreMarksShaped-prop [] [] = Unit-prop
AreMarksShaped-prop [] (r ∷ rs) = λ x. absurd x
AreMarksShaped-prop (m ∷ ms) [] = λ x. absurd x
AreMarksShaped-prop (m ∷ ms) (r ∷ rs) = ×_prop (AreShaped-prop m.shape r) (AreMarksShaped-prop ms rs)

-- there are rows for each savepoint
pub marks_shaped : (s : MemoryStore) → AreMarksShaped (memory_view s.catalog).marks (marked s)
marks_shaped s = ∥∥₁_elim s.shaped (AreMarksShaped-prop _ _) (λ h. h.savepoints)

-- a savepoint at the end of the log
pub marked_on : (s : MemoryStore) → map (rows_after s.kept.items s.log.items) (s.marks.items ++ length s.log.items ∷ []) ≡ marked s ++ rows_at (current s) ∷ []
marked_on s = rw (map-append, at_the_end s.kept.items s.log.items, ← led s)
