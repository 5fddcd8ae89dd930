-- What accounts have come to by the credits so far.
use Rattle.std.proofs.Common.{List, ◌++◌, take}
use Rattle.pool_split.specs.declared.claim.Credit.{Credit}
use Rattle.book_audit.specs.Balances.{AreTotalsOf}
use Rattle.book_audit.proofs.totals.Totals.add.Given as goal

abbrev pub invariant-loop-credit : goal.invariant-loop-credit
invariant-loop-credit l = (done : List Credit) → AreTotalsOf l.fn.self done → AreTotalsOf l.self (done ++ take l.credit-index l.credits)
