use Rattle.std.proofs.Common.{◌≡◌, ℕ, ◌+◌, ◌-◌, get_or, None, vec_len}
use Rattle.memory_store.proofs.memory.MemoryStore.set_cursor.Given as goal

abbrev pub invariant-loop-cursors : goal.invariant-loop-cursors
invariant-loop-cursors l = (c : ℕ) → get_or l.cursors.items c None ≡ get_or l.fn.cursors.items c None

abbrev pub decreases-loop-cursors : goal.decreases-loop-cursors
decreases-loop-cursors l = l.at + 1 - vec_len l.cursors
