use Rattle.std.proofs.Common.{rules}
use Rattle.society_commands.proofs.starting.explain.Goals as goal

pub returns-in-OutOfMemory-clause-memory : goal.returns-in-OutOfMemory-clause-memory
returns-in-OutOfMemory-clause-memory g c = search rules

pub returns-in-Ok-clause-wrong : goal.returns-in-Ok-clause-wrong
returns-in-Ok-clause-wrong g c = search rules

pub returns-in_default-format-clause-wrong : goal.returns-in_default-format-clause-wrong
returns-in_default-format-clause-wrong g c = search rules
