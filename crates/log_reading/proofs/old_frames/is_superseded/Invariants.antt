use Rattle.std.proofs.Common.{◌≢◌, ℕ, ◌<◌, ◌≤◌, IsTrue}
use Rattle.sqlite_wal.specs.Format.{page_number}
use Rattle.sqlite_wal.specs.Recovery.{frame}
use Rattle.log_reading.proofs.old_frames.is_superseded.Given as goal

abbrev pub invariant-loop-before : goal.invariant-loop-before
invariant-loop-before g l = IsTrue (g.L.ReadAt.is_known l.log) → (j : ℕ) → l.i < j → j ≤ l.before → page_number (frame l.size (g.L.ReadAt.bytes l.log) j) ≢ l.page
