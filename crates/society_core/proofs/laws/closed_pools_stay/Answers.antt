use Rattle.society_core.proofs.lemmas.ClosedPools.{closed_pool_stays}
use Rattle.society_core.proofs.laws.closed_pools_stay.Goals as goal

pub returns : goal.returns
returns c = closed_pool_stays
