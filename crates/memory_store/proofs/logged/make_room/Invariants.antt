use Rattle.std.proofs.Common.{◌≡◌, ◌+◌, ◌-◌, vec_len}
use Rattle.memory_store.specs.Log.{rows_at}
use Rattle.memory_store.proofs.logged.make_room.Given as goal

abbrev pub invariant-loop-alloc : goal.invariant-loop-alloc
invariant-loop-alloc l = rows_at l.trees.items ≡ rows_at l.fn.trees.items

abbrev pub decreases-loop-alloc : goal.decreases-loop-alloc
decreases-loop-alloc l = l.tree + 1 - vec_len l.trees
