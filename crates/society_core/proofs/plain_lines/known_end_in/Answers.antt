use Rattle.std.proofs.Common.{rules}
use Rattle.society_core.proofs.plain_lines.known_end_in.Goals as goal

pub returns-in-Some-number_past : goal.returns-in-Some-number_past
returns-in-Some-number_past c = search rules
