use Rattle.std.proofs.Common.{take}
use Rattle.book_audit.specs.Paying.{AreNumbersOf}
use Rattle.book_audit.proofs.paying.numbers_of.Given as goal

-- the numbers so far
abbrev pub invariant-loop-one : goal.invariant-loop-one
invariant-loop-one l = AreNumbersOf (take l.one-index l.closed) l.numbers
