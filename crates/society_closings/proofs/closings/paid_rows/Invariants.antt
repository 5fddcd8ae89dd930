use Rattle.std.proofs.Common.{◌≡◌, map, take}
use Rattle.society_rows.specs.Rows.{pool_return_values}
use Rattle.society_book.specs.BookRows.{paid_row}
use Rattle.society_closings.proofs.closings.paid_rows.Given as goal

abbrev pub invariant-loop-key : goal.invariant-loop-key
invariant-loop-key l = map pool_return_values l.rows.items ≡ map (paid_row l.pool) (take l.key-index l.returns)
