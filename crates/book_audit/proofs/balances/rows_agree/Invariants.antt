-- The rows so far, with those of what is left, are those of the units.
use Rattle.std.proofs.Common.{take}
use Rattle.book_audit.proofs.lemmas.balances.BalanceRows.{AreSoFar}
use Rattle.book_audit.proofs.balances.rows_agree.Given as goal

abbrev pub invariant-loop-row : goal.invariant-loop-row
invariant-loop-row l = AreSoFar l.fn.units l.left (take l.row-index l.rows)
