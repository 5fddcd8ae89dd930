use Rattle.std.proofs.Common.{take}
use Rattle.std.specs.List.{AllByRecursion}
use Rattle.book_audit.specs.Credits.{IsCreditOf}
use Rattle.book_audit.proofs.credit_owners.are_of_these.Given as goal

-- the rows so far are of them
abbrev pub invariant-loop-row : goal.invariant-loop-row
invariant-loop-row l = AllByRecursion (IsCreditOf l.pools) (take l.row-index l.rows)
