use Rattle.std.proofs.Common.{arith, rules}
use Rattle.share_rules.specs.Weights.{weights_of}
use Rattle.share_rules.proofs.lemmas.Whole.{clean_is_whole}
use Rattle.share_rules.proofs.weighing.weights.Goals as goal

pub returns-clause-weights : goal.returns-clause-weights
unfolding weights_of
returns-clause-weights c = search rules

pub returns-clause-total : goal.returns-clause-total
unfolding weights_of
returns-clause-total c = grind (arith, clean_is_whole)
