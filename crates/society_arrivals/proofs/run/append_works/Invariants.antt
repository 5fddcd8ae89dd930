use Rattle.std.proofs.Common.{◌≡◌, ◌++◌, drop}
use Rattle.society_arrivals.specs.Runs.{clean_works}
use Rattle.society_arrivals.proofs.run.append_works.Given as goal

abbrev pub invariant-loop-transaction : goal.invariant-loop-transaction
invariant-loop-transaction l = l.works.items ++ clean_works (drop l.transaction-index l.judged) ≡ l.initial.works.items ++ clean_works l.judged
