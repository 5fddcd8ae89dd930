use Rattle.std.proofs.Common.{◌≡◌, ◌++◌, map, take}
use Rattle.works_core.specs.Line.{judged}
use Rattle.works_core.proofs.sender_line.append_judged.Given as goal

abbrev pub invariant-loop-transaction : goal.invariant-loop-transaction
invariant-loop-transaction l = l.list.items ≡ l.initial.list.items ++ map (judged l.office) (take l.transaction-index l.transactions)
