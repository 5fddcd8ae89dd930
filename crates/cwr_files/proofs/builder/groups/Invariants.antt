use Rattle.std.proofs.Common.{length}
use Rattle.cwr_files.proofs.lemmas.Listing.{AreGroupsIn}
use Rattle.cwr_files.proofs.builder.groups.Given as goal

abbrev pub invariant-loop-rest : goal.invariant-loop-rest
invariant-loop-rest l = AreGroupsIn l.after l.rest l.list.items

abbrev pub decreases-loop-rest : goal.decreases-loop-rest
decreases-loop-rest l = length l.rest
