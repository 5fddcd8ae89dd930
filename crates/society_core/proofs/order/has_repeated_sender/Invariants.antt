use Rattle.std.proofs.Common.{◌≡◌, length}
use Rattle.society_core.specs.Orders.{has_repeat, same_sender}
use Rattle.society_core.proofs.order.has_repeated_sender.Given as goal

abbrev pub invariant-loop-first : goal.invariant-loop-first
invariant-loop-first l = has_repeat same_sender l.cut ≡ has_repeat same_sender l.rest

abbrev pub decreases-loop-first : goal.decreases-loop-first
decreases-loop-first l = length l.rest
