use Rattle.std.proofs.Common.{◌≡◌, Ok, take}
use Rattle.std.specs.List.{AllByRecursion}
use Rattle.sqlite.specs.Held.{state}
use Rattle.society_core.specs.Orders.{IsOrder}
use Rattle.book_audit.specs.declared.pool_orders.ClosedPool.{ClosedPool}
use Rattle.society_book.specs.Steps.{Examines}
use Rattle.book_audit.specs.Standing.{HoldsNoLines, KnowsReach, OrdersStand}
use Rattle.book_audit.proofs.standing.orders_stand.Given as goal

-- the orders so far can stand, and how far the senders of their cuts came is known
abbrev pub invariant-loop-one : goal.invariant-loop-one
invariant-loop-one g l = record {
  same_reference : l.tx.conn.ghost_name ≡ l.fn.tx.conn.ghost_name;
  examined : Examines {X = Unit {0}} HoldsNoLines (state g.S.Store l.fn.tx.conn.now) (state g.S.Store l.tx.conn.now) (Ok tt)
      (λ db _. KnowsReach db l.reached × OrdersStand (take l.one-index l.closed) db);
  kept : AllByRecursion (λ (c : ClosedPool). IsOrder c.order) (take l.one-index l.closed);
}
