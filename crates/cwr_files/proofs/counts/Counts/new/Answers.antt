use Rattle.std.proofs.Common.{refl}
use Rattle.cwr_files.specs.LinesBefore.{groups_before}
use Rattle.cwr_files.specs.Counts.{counts_of}
use Rattle.cwr_files.proofs.counts.Counts.new.Goals as goal

pub returns : goal.returns
unfolding counts_of groups_before
returns c = refl
