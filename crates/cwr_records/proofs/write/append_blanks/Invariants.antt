use Rattle.std.proofs.Common.{◌≡◌, ◌++◌, replicate}
use Rattle.cwr_records.proofs.write.append_blanks.Given as goal

abbrev pub invariant-loop : goal.invariant-loop
invariant-loop l = l.out.items ≡ l.initial.out.items ++ replicate l.counter 32
