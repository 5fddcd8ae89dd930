-- What accounts have come to by the portions so far.
use Rattle.std.proofs.Common.{List, ◌++◌, take}
use Rattle.pool_split.specs.Credits.{credits_together}
use Rattle.pool_split.specs.declared.claim.Credit.{Credit}
use Rattle.book_audit.specs.Balances.{AreTotalsOf}
use Rattle.book_audit.proofs.totals.Totals.add_portions.Given as goal

abbrev pub invariant-loop-portion : goal.invariant-loop-portion
invariant-loop-portion l = (done : List Credit) → AreTotalsOf l.fn.self done → AreTotalsOf l.self (done ++ credits_together (take l.portion-index l.portions))
