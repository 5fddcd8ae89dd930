use Rattle.std.proofs.Common.{rules}
use Rattle.society_core.proofs.plain_lines.ended_before.Goals as goal

pub returns-in_default : goal.returns-in_default
returns-in_default c = search rules
