use Rattle.std.proofs.Common.{◌-◌}
use Rattle.pool_split.proofs.lemmas.Neighbours.{AreBelowNext}
use Rattle.pool_split.proofs.payable.are_ascending.Given as goal

abbrev pub invariant-loop-place : goal.invariant-loop-place
invariant-loop-place l = AreBelowNext l.claims (l.place - 1)
