use Rattle.std.proofs.Common.{◌-◌, length}
use Rattle.cwr_files.proofs.lemmas.OnePass.{IsAtLine}
use Rattle.cwr_files.proofs.progress.read_lines.Given as goal

abbrev pub invariant-lines : goal.invariant-lines
invariant-lines l = IsAtLine l.sender l.body l.at l.known

abbrev pub decreases-lines : goal.decreases-lines
decreases-lines l = length l.body - l.at.start
