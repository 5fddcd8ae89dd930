use Rattle.std.proofs.Common.{◌≡◌, map, take}
use Rattle.society_rows.specs.Rows.{verdict_values}
use Rattle.society_arrivals.specs.Outcomes.{settled}
use Rattle.society_arrivals.specs.Runs.{settled_verdict}
use Rattle.society_arrivals.proofs.outcomes.verdict_rows.Given as goal

abbrev pub invariant-loop-outcome : goal.invariant-loop-outcome
invariant-loop-outcome l = map verdict_values l.rows.items ≡ map (λ x. settled_verdict l.sender (settled x)) (take l.outcome-index l.outcomes)
