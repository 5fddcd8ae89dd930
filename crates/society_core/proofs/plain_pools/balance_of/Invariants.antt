use Rattle.std.proofs.Common.{◌≡◌, ◌≤◌, ◌*◌, take}
use Rattle.std.specs.List.{flat_map}
use Rattle.society_core.specs.Pools.{credits_of, units_to}
use Rattle.society_core.proofs.plain_pools.balance_of.Given as goal

-- the units of the orders so far, each within the greatest amount
abbrev pub invariant-loop-order : goal.invariant-loop-order
invariant-loop-order l = record {
  units : l.units ≡ units_to l.account (flat_map (λ order. credits_of l.office l.book order.now) (take l.order-index l.order-items));
  within : l.units ≤ l.order-index * 1000000000000;
}
