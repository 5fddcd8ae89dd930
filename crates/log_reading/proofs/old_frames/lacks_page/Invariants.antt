use Rattle.std.proofs.Common.{ℕ, ◌≤◌, IsTrue}
use Rattle.log_reading.specs.Stands.{Lacks}
use Rattle.log_reading.proofs.old_frames.lacks_page.Given as goal

abbrev pub invariant-loop-before : goal.invariant-loop-before
invariant-loop-before g l = IsTrue (g.L.ReadAt.is_known l.log) → IsTrue (g.D.ReadAt.is_known l.db) → (i : ℕ) → i ≤ l.before → ¬ Lacks l.size (g.L.ReadAt.bytes l.log) (g.D.ReadAt.bytes l.db) l.old.last i
