-- The pools of the rows so far.
use Rattle.std.proofs.Common.{take}
use Rattle.book_audit.specs.Pools.{AreClosedBy}
use Rattle.book_audit.proofs.pool_orders.closed_pools.Given as goal

abbrev pub invariant-loop-row : goal.invariant-loop-row
invariant-loop-row l = AreClosedBy l.rows (take l.row-index l.pools) l.closed.items
