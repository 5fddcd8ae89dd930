use Rattle.std.proofs.Common.{◌≡◌}
use Rattle.memory_store.specs.Log.{rows_at, replayed}
use Rattle.memory_store.proofs.logged.replay.Given as goal

abbrev pub invariant-loop-logged : goal.invariant-loop-logged
invariant-loop-logged l = rows_at l.trees.items ≡ replayed l.yielded (rows_at l.fn.trees.items)
