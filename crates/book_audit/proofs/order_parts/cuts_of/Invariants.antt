-- The cuts of each pool among the rows so far.
use Rattle.std.proofs.Common.{◌≡◌, ℕ, map, filter, take}
use Rattle.std.specs.List.{AllByRecursion}
use Rattle.society_book.specs.BookRows.{is_of_pool}
use Rattle.book_audit.specs.OrderParts.{SaysCut, items_kept}
use Rattle.book_audit.specs.Pools.{cut_pair}
use Rattle.book_audit.proofs.order_parts.cuts_of.Given as goal

abbrev pub invariant-loop-row : goal.invariant-loop-row
invariant-loop-row l = record {
  each : AllByRecursion (SaysCut l.pools) (take l.row-index l.rows);
  kept : (pool : ℕ) → items_kept l.cuts pool ≡ map cut_pair (filter (is_of_pool 0 pool) (take l.row-index l.rows));
}
