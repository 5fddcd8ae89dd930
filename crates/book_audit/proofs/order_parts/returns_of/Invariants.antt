-- The returns of each pool among the rows so far.
use Rattle.std.proofs.Common.{◌≡◌, ℕ, map, filter, take}
use Rattle.std.specs.List.{AllByRecursion}
use Rattle.society_book.specs.BookRows.{is_of_pool}
use Rattle.book_audit.specs.OrderParts.{SaysPaid, items_kept}
use Rattle.book_audit.specs.Pools.{paid_pair}
use Rattle.book_audit.proofs.order_parts.returns_of.Given as goal

abbrev pub invariant-loop-row : goal.invariant-loop-row
invariant-loop-row l = record {
  each : AllByRecursion (SaysPaid l.pools) (take l.row-index l.rows);
  kept : (pool : ℕ) → items_kept l.returns pool ≡ map paid_pair (filter (is_of_pool 2 pool) (take l.row-index l.rows));
}
