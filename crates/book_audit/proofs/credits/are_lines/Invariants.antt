use Rattle.std.proofs.Common.{◌≡◌, ◌++◌, length, take}
use Rattle.pool_split.specs.Credits.{credits_together}
use Rattle.society_closings.specs.Closings.{lines_from}
use Rattle.book_audit.proofs.credits.are_lines.Given as goal

-- the rows are the lines of the portions so far, and those that are left
abbrev pub invariant-loop-portion : goal.invariant-loop-portion
invariant-loop-portion l =
    let done = credits_together (take l.portion-index l.portions) in
    record {
      line : l.line ≡ length done;
      rows : l.fn.rows ≡ lines_from l.pool 0 done ++ l.left;
    }
