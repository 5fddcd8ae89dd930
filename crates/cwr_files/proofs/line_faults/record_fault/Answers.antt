use Rattle.std.proofs.Common.{rules}
use Rattle.cwr_files.specs.Chain.{record_fault}
use Rattle.cwr_files.proofs.line_faults.record_fault.Goals as goal

pub returns-then-not-is_in_sequence : goal.returns-then-not-is_in_sequence
unfolding record_fault
returns-then-not-is_in_sequence c = search rules
