use Rattle.std.proofs.Common.{rules}
use Rattle.society_core.proofs.plain_lines.is_same_end.Goals as goal

pub returns-then-last : goal.returns-then-last
returns-then-last c = search rules
