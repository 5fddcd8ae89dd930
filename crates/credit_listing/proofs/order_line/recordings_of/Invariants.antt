use Rattle.credit_listing.proofs.lemmas.LineLemmas.{NamedSoFar}
use Rattle.credit_listing.proofs.order_line.recordings_of.Given as goal

abbrev pub invariant-loop-entry : goal.invariant-loop-entry
invariant-loop-entry l = NamedSoFar l.entry-items l.entry-index l.recordings.items
