use Rattle.std.proofs.Common.{◌≡◌, ◌++◌, flat_map, map, drop}
use Rattle.society_rows.specs.Rows.{recording_values}
use Rattle.society_arrivals.specs.Outcomes.{settled}
use Rattle.society_arrivals.specs.Runs.{settled_recordings}
use Rattle.society_arrivals.proofs.outcomes.recording_rows.Given as goal

abbrev pub invariant-loop-outcome : goal.invariant-loop-outcome
invariant-loop-outcome l =
    map recording_values l.rows.items ++ flat_map (λ x. settled_recordings l.sender (settled x)) (drop l.outcome-index l.outcomes) ≡ flat_map (λ x. settled_recordings l.sender (settled x)) l.outcomes
