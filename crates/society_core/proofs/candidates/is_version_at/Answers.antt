use Rattle.std.proofs.Common.{rules}
use Rattle.society_core.proofs.candidates.is_version_at.Goals as goal

pub returns-in-None : goal.returns-in-None
returns-in-None c = search rules

pub returns-then-eq : goal.returns-then-eq
returns-then-eq c = search rules

pub returns-else-eq : goal.returns-else-eq
returns-else-eq c = search rules
