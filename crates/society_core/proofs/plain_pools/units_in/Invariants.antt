use Rattle.std.proofs.Common.{◌≡◌, take}
use Rattle.society_core.specs.Pools.{units_to}
use Rattle.society_core.proofs.plain_pools.units_in.Given as goal

abbrev pub invariant-loop-credit : goal.invariant-loop-credit
invariant-loop-credit l = l.units ≡ units_to l.account (take l.credit-index l.credits)
