use Rattle.std.proofs.Common.{◌≡◌, ◌++◌, map, take}
use Rattle.society_core.specs.Keys.{ascending, bytes_cmp}
use Rattle.works_core.specs.Recordings.{isrcs_of}
use Rattle.society_arrivals.proofs.run.append_isrcs.Given as goal

abbrev pub invariant-loop-transaction : goal.invariant-loop-transaction
invariant-loop-transaction l = map (λ x. x.items) l.list.items ≡ map (λ x. x.items) l.initial.list.items ++ map (λ x. ascending bytes_cmp (isrcs_of x)) (take l.transaction-index l.transactions)
