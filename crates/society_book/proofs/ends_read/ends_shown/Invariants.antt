use Rattle.std.proofs.Common.{◌≡◌, take}
use Rattle.society_book.specs.EndLists.{end_listed, end_shown}
use Rattle.society_book.proofs.ends_read.ends_shown.Given as goal

-- the ends so far are those of the rows so far
abbrev pub invariant-loop-row : goal.invariant-loop-row
invariant-loop-row l = end_listed l.ends ≡ end_shown (take l.row-index l.rows)
