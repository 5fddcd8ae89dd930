use Rattle.std.proofs.Common.{rules}
use Rattle.share_rules.proofs.shares.Shares.share.Goals as goal

pub returns-in-Mechanical : goal.returns-in-Mechanical
returns-in-Mechanical c = search rules
