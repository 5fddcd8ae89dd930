use Rattle.std.proofs.Common.{◌≡◌, take}
use Rattle.memory_store.specs.Log.{rows_at, replayed}
use Rattle.memory_store.proofs.logged.led_by.Given as goal

abbrev pub invariant-loop-logged : goal.invariant-loop-logged
invariant-loop-logged l = rows_at l.led.items ≡ replayed (take l.logged-index l.log) (rows_at l.fn.trees)
