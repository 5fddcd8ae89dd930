use Rattle.std.proofs.Common.{◌≡◌, length}
use Rattle.society_core.specs.Orders.{has_repeat, same_numbered}
use Rattle.society_core.proofs.order.has_repeated_return.Given as goal

abbrev pub invariant-loop-first : goal.invariant-loop-first
invariant-loop-first l = has_repeat same_numbered l.returns ≡ has_repeat same_numbered l.rest

abbrev pub decreases-loop-first : goal.decreases-loop-first
decreases-loop-first l = length l.rest
