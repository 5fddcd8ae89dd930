use Rattle.std.proofs.Common.{take}
use Rattle.society_core.specs.Book.{numbers_to}
use Rattle.society_core.specs.Points.{is_tallied}
use Rattle.society_core.specs.Candidates.{AddsCandidates}
use Rattle.society_core.proofs.lemmas.CandidateLemmas.{versions_over}
use Rattle.society_core.proofs.candidates.add_sender.Given as goal
use Rattle.society_core.specs.Pools.{holders_of}

abbrev pub invariant-loop-number : goal.invariant-loop-number
invariant-loop-number l = AddsCandidates (holders_of l.weighing.kind l.weighing.office.now) (is_tallied l.weighing.tally.now) (versions_over l.weighing.office.now l.book l.key (take l.number-index (numbers_to l.book l.key.sender l.key.number))) l.initial.candidates.items l.candidates.items
