use Rattle.std.proofs.Common.{◌≡◌, sum, take}
use Rattle.pool_split.proofs.splitting.sum.Given as goal

abbrev pub invariant-loop-number : goal.invariant-loop-number
invariant-loop-number l = l.sum ≡ sum (take l.number-index l.numbers)
