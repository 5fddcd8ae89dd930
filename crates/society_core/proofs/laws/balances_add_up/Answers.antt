use Rattle.society_core.proofs.lemmas.PoolLemmas.{balances_sum}
use Rattle.society_core.proofs.laws.balances_add_up.Goals as goal

pub returns : goal.returns
returns c = balances_sum
