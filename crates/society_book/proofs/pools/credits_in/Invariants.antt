use Rattle.std.proofs.Common.{◌≡◌, Some, map, take}
use Rattle.society_book.specs.Shown.{credit_in}
use Rattle.society_book.proofs.pools.credits_in.Given as goal

abbrev pub invariant-loop-row : goal.invariant-loop-row
invariant-loop-row l = map Some l.list.items ≡ map credit_in (take l.row-index l.rows)
