use Rattle.std.proofs.Common.{IsTrue}
use Rattle.log_reading.proofs.Watching.{Watches}
use Rattle.log_reading.proofs.behind.goes_on_behind.Given as goal

abbrev pub invariant-loop-i : goal.invariant-loop-i
invariant-loop-i g l = IsTrue (g.L.ReadAt.is_known l.log) → Watches l.size (g.L.ReadAt.bytes l.log) l.from l.i l.sums l.has_ended
