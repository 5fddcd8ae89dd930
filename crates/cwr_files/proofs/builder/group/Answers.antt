use Rattle.std.proofs.Common.{rules}
use Rattle.cwr_files.proofs.builder.group.Goals as goal

pub returns : goal.returns
returns c = search rules
