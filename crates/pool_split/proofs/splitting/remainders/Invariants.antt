use Rattle.std.proofs.Common.{◌≡◌, map, take}
use Rattle.pool_split.specs.Split.{remainder}
use Rattle.pool_split.proofs.splitting.remainders.Given as goal

abbrev pub invariant-loop-weight : goal.invariant-loop-weight
invariant-loop-weight l = l.list.items ≡ map (remainder l.amount l.total) (take l.weight-index l.weights)
