use Rattle.pool_split.proofs.lemmas.Whole.{split_is_fair}
use Rattle.pool_split.proofs.laws.splits_are_fair.Goals as goal

pub returns : goal.returns
returns c = split_is_fair
