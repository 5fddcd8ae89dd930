use Rattle.std.proofs.Common.{rules}
use Rattle.society_commands.proofs.trouble.database_fault.Goals as goal

pub returns-in-Schema : goal.returns-in-Schema
returns-in-Schema c = search rules

pub returns-in-Damaged : goal.returns-in-Damaged
returns-in-Damaged c = search rules
