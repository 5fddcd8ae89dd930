use Rattle.pool_split.proofs.lemmas.Whole.{credits_add}
use Rattle.pool_split.proofs.laws.credits_add_up.Goals as goal

pub returns : goal.returns
returns c = credits_add
