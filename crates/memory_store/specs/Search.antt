-- A search over the pieces of a tree, and what the steps of a write do to them.
use Rattle.std.specs.Prelude.{◌≡◌, ℕ, zero, suc, ◌<◌, ◌-◌, Bool, false, not, List, [], ◌∷◌, length, map, slice_index_or, IsTrue, Vec}
use Rattle.std.specs.Ordering.{is_lt, is_gt}
use Rattle.std.specs.List.{AllByRecursion}
use Rattle.std.specs.declared.alloc.Global.{Global}
use Rattle.sqlite_value.specs.Value.{owned}
use Rattle.sqlite_value.specs.Order.{Row, value_cmp}
use Rattle.sqlite_value.specs.Keys.{entry_cmp, prefix_cmp}
use Rattle.sqlite_trees.specs.Tree.{rowid, IsAscending}
use Rattle.memory_store.specs.declared.search.Probe.{Probe}
use Rattle.memory_store.specs.declared.search.Probe.TheVariants.{BelowKey, UpToKey, BelowRowid, BelowEntry}

-- whether a row stands before the place that is looked for
abbrev pub passes_probe : Probe → Row → Bool
passes_probe (BelowKey o key) e = is_lt (prefix_cmp o e key.now)
passes_probe (UpToKey o key) e = not (is_gt (prefix_cmp o e key.now))
passes_probe (BelowRowid id) e = is_lt (value_cmp (rowid e) (owned id))
passes_probe (BelowEntry o other) e = is_lt (entry_cmp o e other.now)

-- what stands before a row that passes passes too
abbrev pub IsCutOnce : (Row → Bool) → List Row → Type 0
IsCutOnce test = IsAscending (λ a b. IsTrue (test b) → IsTrue (test a))

-- the last row of each piece
abbrev pub lasts : List (Vec Row Global) → List Row
lasts = map (λ piece. slice_index_or piece.items (length piece.items - 1) [])

abbrev pub AllPass : (Row → Bool) → List Row → Type 0
AllPass test = AllByRecursion (λ e. IsTrue (test e))

abbrev pub AllFail : (Row → Bool) → List Row → Type 0
AllFail test = AllByRecursion (λ e. test e ≡ false)

-- the first row is there and passes
abbrev pub head_passes : (Row → Bool) → List Row → Bool
head_passes test [] = false
head_passes test (e ∷ es) = test e

-- there is a row behind this place in its piece
abbrev pub IsRowPlace : List (Vec Row Global) → ℕ → ℕ → Type 0
IsRowPlace [] piece at = ⊥
IsRowPlace (first ∷ pieces) zero at = at < length first.items
IsRowPlace (first ∷ pieces) (suc piece) at = IsRowPlace pieces piece at
