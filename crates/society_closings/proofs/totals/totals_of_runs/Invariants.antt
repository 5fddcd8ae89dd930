use Rattle.std.proofs.Common.{[], ◌∷◌, ◌++◌, take}
use Rattle.society_closings.specs.Closings.{ComeToTheSame}
use Rattle.society_closings.proofs.totals.totals_of_runs.Given as goal

-- the totals so far, with the one at hand, come to what the credits so far come to
abbrev pub invariant-loop-credit : goal.invariant-loop-credit
invariant-loop-credit l = ComeToTheSame (l.totals.items ++ l.total ∷ []) (l.initial.total ∷ take l.credit-index l.rest)
