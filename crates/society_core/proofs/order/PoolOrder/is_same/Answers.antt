use Rattle.std.proofs.Common.{rules}
use Rattle.society_core.proofs.order.PoolOrder.is_same.Goals as goal

pub returns-then-eq-2 : goal.returns-then-eq-2
returns-then-eq-2 c = search rules
