use Rattle.std.proofs.Common.{arith}
use Rattle.std.proofs.lemmas.Grind.{common_steps}
use Rattle.society_core.proofs.desk.Desk.check_returns.Goals as goal

pub loop-key-preserved : goal.loop-key-preserved
loop-key-preserved g c = grind (arith, common_steps)
