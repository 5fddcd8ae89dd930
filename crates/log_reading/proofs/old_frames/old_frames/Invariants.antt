use Rattle.std.proofs.Common.{◌<◌, IsTrue}
use Rattle.log_reading.specs.OldFrames.{HasJoined}
use Rattle.log_reading.proofs.old_frames.old_frames.Given as goal

abbrev pub invariant-loop-i : goal.invariant-loop-i
invariant-loop-i g l = record {
  early : l.old.last < l.i;
  known : IsTrue (g.L.ReadAt.is_known l.log) → HasJoined l.size (g.L.ReadAt.bytes l.log) l.i l.old.last l.old.pages l.old.sums;
}
