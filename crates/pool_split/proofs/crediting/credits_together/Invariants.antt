use Rattle.std.proofs.Common.{◌≡◌, take}
use Rattle.pool_split.specs.Credits.{credits_together}
use Rattle.pool_split.proofs.crediting.credits_together.Given as goal

abbrev pub invariant-loop-portion : goal.invariant-loop-portion
invariant-loop-portion l = l.list.items ≡ credits_together (take l.portion-index l.portions)
