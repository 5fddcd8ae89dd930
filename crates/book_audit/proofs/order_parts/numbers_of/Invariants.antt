-- The numbers of the rows so far, each of which stands once.
use Rattle.std.proofs.Common.{◌≡◌, ◌≤◌, ℕ, filter, length, take}
use Rattle.std.specs.BTreeSet.{contains}
use Rattle.std.specs.List.{list_any}
use Rattle.std.specs.Ordering.{nat_cmp}
use Rattle.society_book.specs.BookRows.{is_of_pool}
use Rattle.book_audit.proofs.order_parts.numbers_of.Given as goal

abbrev pub invariant-loop-row : goal.invariant-loop-row
invariant-loop-row l = record {
  these : (pool : ℕ) → contains nat_cmp l.numbers pool ≡ list_any (is_of_pool 0 pool) (take l.row-index l.rows);
  once : (pool : ℕ) → length (filter (is_of_pool 0 pool) (take l.row-index l.rows)) ≤ 1;
}
