use Rattle.std.proofs.Common.{IsTrue}
use Rattle.log_reading.proofs.Lemmas.{HasRead}
use Rattle.log_reading.proofs.ending.end_of.Given as goal

abbrev pub invariant-loop-i : goal.invariant-loop-i
invariant-loop-i g l = IsTrue (g.L.ReadAt.is_known l.log) → HasRead l.size (g.L.ReadAt.bytes l.log) l.i l.sums l.is_whole
