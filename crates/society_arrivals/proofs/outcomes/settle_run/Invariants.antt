use Rattle.std.proofs.Common.{◌≡◌, ◌++◌, Bool, ℕ, List, map, drop}
use Rattle.society_arrivals.specs.Outcomes.{settled}
use Rattle.society_arrivals.specs.Runs.{KnowsRun, behind_run, settled_run}
use Rattle.society_arrivals.proofs.outcomes.settle_run.Given as goal
use Rattle.works_core.specs.Ends.{EndsAt}
use Rattle.works_core.specs.Versions.{Placed}

-- the transactions so far and those of what is left are those of all, behind which the line ends
abbrev pub invariant-loop-noted : goal.invariant-loop-noted
invariant-loop-noted l = (known : List ℕ → Bool) (past : List Placed) → EndsAt known past l.initial.end → KnowsRun known l.run →
    (now : List Placed) × EndsAt known now l.end × KnowsRun known (drop l.noted-index l.run)
    × (map settled l.list.items ++ settled_run now (drop l.noted-index l.run) ≡ settled_run past l.run)
    × (behind_run now (drop l.noted-index l.run) ≡ behind_run past l.run)
