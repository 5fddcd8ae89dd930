use Rattle.std.proofs.Common.{◌≡◌, ◌++◌, flat_map, map, drop}
use Rattle.society_rows.specs.Rows.{version_values}
use Rattle.society_arrivals.specs.Outcomes.{settled}
use Rattle.society_arrivals.specs.Runs.{settled_version}
use Rattle.society_arrivals.proofs.outcomes.version_rows.Given as goal

abbrev pub invariant-loop-outcome : goal.invariant-loop-outcome
invariant-loop-outcome l =
    map version_values l.rows.items ++ flat_map (λ x. settled_version l.sender (settled x)) (drop l.outcome-index l.outcomes) ≡ flat_map (λ x. settled_version l.sender (settled x)) l.outcomes
