use Rattle.std.proofs.Common.{◌≡◌, map, take}
use Rattle.society_rows.specs.Rows.{pool_cut_values}
use Rattle.society_book.specs.BookRows.{cut_row}
use Rattle.society_closings.proofs.closings.cut_rows.Given as goal

abbrev pub invariant-loop-key : goal.invariant-loop-key
invariant-loop-key l = map pool_cut_values l.rows.items ≡ map (cut_row l.pool) (take l.key-index l.cut)
