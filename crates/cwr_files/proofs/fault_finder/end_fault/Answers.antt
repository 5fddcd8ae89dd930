use Rattle.std.proofs.Common.{rules}
use Rattle.cwr_files.proofs.fault_finder.end_fault.Goals as goal

pub returns-in-Ended : goal.returns-in-Ended
returns-in-Ended c = search rules
