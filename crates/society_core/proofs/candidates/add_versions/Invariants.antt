use Rattle.std.proofs.Common.{take}
use Rattle.society_core.specs.Points.{is_tallied}
use Rattle.society_core.specs.Candidates.{AddsCandidates, transactions_sent}
use Rattle.society_core.specs.Owners.{versions_of_transmission}
use Rattle.society_core.proofs.candidates.add_versions.Given as goal
use Rattle.society_core.specs.Pools.{holders_of}

abbrev pub invariant-loop-place : goal.invariant-loop-place
invariant-loop-place l = AddsCandidates (holders_of l.weighing.kind l.weighing.office.now) (is_tallied l.weighing.tally.now) (versions_of_transmission l.weighing.office.now l.book l.key l.number (take l.place (transactions_sent l.book l.key.sender l.number))) l.initial.candidates.items l.candidates.items
