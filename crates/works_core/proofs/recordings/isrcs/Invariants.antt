use Rattle.std.proofs.Common.{◌≡◌, ◌++◌, drop}
use Rattle.works_core.specs.Recordings.{isrcs_in, isrcs_of}
use Rattle.works_core.proofs.recordings.isrcs.Given as goal

-- the ISRCs so far and those of what is left are those of all
abbrev pub invariant-loop-record : goal.invariant-loop-record
invariant-loop-record l = l.list.items ++ isrcs_in (drop l.record-index l.record-items) ≡ isrcs_of l.transaction
