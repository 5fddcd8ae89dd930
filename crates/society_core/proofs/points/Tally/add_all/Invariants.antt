use Rattle.std.proofs.Common.{◌≤◌, ◌+◌, ◌++◌, List, length, take}
use Rattle.perf_returns.specs.declared.performance.Performance.{Performance}
use Rattle.society_core.specs.Points.{Tallies}
use Rattle.society_core.proofs.points.Tally.add_all.Given as goal

abbrev pub invariant-loop-row : goal.invariant-loop-row
invariant-loop-row l = (rows : List Performance) → length rows + length l.more ≤ 10000000 → Tallies l.fn.self rows → Tallies l.self (rows ++ take l.row-index l.more)
