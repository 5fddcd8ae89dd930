use Rattle.std.proofs.Common.{◌≡◌, ◌++◌, Bool, ℕ, List, drop}
use Rattle.works_core.specs.Ends.{EndsAt, KnowsWorks}
use Rattle.works_core.specs.Verdicts.{verdicts_from}
use Rattle.works_core.specs.Versions.{Placed, judged_of, placed_behind}
use Rattle.works_core.proofs.line_end.LineEnd.apply.Given as goal

-- the verdicts so far and those of what is left are those of all, behind which the line ends
abbrev pub invariant-loop-place : goal.invariant-loop-place
invariant-loop-place l = (known : List ℕ → Bool) (past : List Placed) → EndsAt known past l.initial.self → KnowsWorks known l.transactions →
    (now : List Placed) × EndsAt known now l.self × KnowsWorks known (drop l.place l.transactions)
    × (l.verdicts.items ++ verdicts_from (judged_of now) (drop l.place l.transactions) ≡ verdicts_from (judged_of past) l.transactions)
    × (placed_behind now l.number l.place (drop l.place l.transactions) ≡ placed_behind past l.number 0 l.transactions)
