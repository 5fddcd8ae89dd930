use Rattle.std.proofs.Common.{◌≡◌, map, take}
use Rattle.pool_split.specs.Split.{quotient}
use Rattle.pool_split.proofs.splitting.quotients.Given as goal

abbrev pub invariant-loop-weight : goal.invariant-loop-weight
invariant-loop-weight l = l.list.items ≡ map (quotient l.amount l.total) (take l.weight-index l.weights)
