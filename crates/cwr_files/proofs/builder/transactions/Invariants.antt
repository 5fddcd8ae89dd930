use Rattle.std.proofs.Common.{length}
use Rattle.cwr_files.proofs.lemmas.Listing.{AreTransactions}
use Rattle.cwr_files.proofs.builder.transactions.Given as goal

abbrev pub invariant-openings : goal.invariant-openings
invariant-openings l = AreTransactions l.kind l.group l.after l.rest l.list.items

abbrev pub decreases-openings : goal.decreases-openings
decreases-openings l = length l.rest
