use Rattle.std.proofs.Common.{length}
use Rattle.cwr_files.proofs.lemmas.Listing.{AreRecords}
use Rattle.cwr_files.proofs.builder.records.Given as goal

abbrev pub invariant-further : goal.invariant-further
invariant-further l = AreRecords l.kind l.fn.first l.after l.rest l.list.items

abbrev pub decreases-further : goal.decreases-further
decreases-further l = length l.rest
