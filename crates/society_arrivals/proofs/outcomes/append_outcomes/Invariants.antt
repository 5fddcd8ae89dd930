use Rattle.std.proofs.Common.{◌≡◌, ◌++◌, map, drop}
use Rattle.society_arrivals.specs.Outcomes.{settled}
use Rattle.society_arrivals.specs.Runs.{settled_from}
use Rattle.society_arrivals.proofs.outcomes.append_outcomes.Given as goal

abbrev pub invariant-loop-at : goal.invariant-loop-at
invariant-loop-at l =
    map settled l.list.items ++ settled_from l.noted.number l.at (drop l.at l.noted.judged) (drop l.at l.noted.isrcs) (drop l.at l.verdicts)
    ≡ map settled l.initial.list.items ++ settled_from l.noted.number 0 l.noted.judged l.noted.isrcs l.verdicts
