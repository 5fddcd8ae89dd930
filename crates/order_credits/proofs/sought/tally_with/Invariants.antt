use Rattle.std.proofs.Common.{◌≡◌, List, map, take}
use Rattle.perf_returns.specs.declared.performance.Performance.{Performance}
use Rattle.society_core.specs.Points.{Tallies}
use Rattle.order_credits.proofs.sought.tally_with.Given as goal

abbrev pub invariant-loop-isrc : goal.invariant-loop-isrc
invariant-loop-isrc l = (rows : List Performance) × Tallies l.tally rows × (map (λ (row : Performance). row.isrc) rows ≡ take l.isrc-index l.isrcs)
