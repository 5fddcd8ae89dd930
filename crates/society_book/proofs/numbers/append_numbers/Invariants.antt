use Rattle.std.proofs.Common.{◌≡◌, ◌++◌, map, take}
use Rattle.society_book.specs.Columns.{whole_number_at}
use Rattle.society_book.proofs.numbers.append_numbers.Given as goal

abbrev pub invariant-loop-row : goal.invariant-loop-row
invariant-loop-row l = l.list.items ≡ l.initial.list.items ++ map (whole_number_at 1) (take l.row-index l.rows)
