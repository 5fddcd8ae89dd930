use Rattle.std.proofs.Common.{rules}
use Rattle.cwr_files.specs.Chain.{closing_fault}
use Rattle.cwr_files.proofs.line_faults.closing_fault.Goals as goal

pub returns-then-has_group_counts : goal.returns-then-has_group_counts
unfolding closing_fault
returns-then-has_group_counts c = search rules

pub returns-else-has_group_counts : goal.returns-else-has_group_counts
unfolding closing_fault
returns-else-has_group_counts c = search rules
