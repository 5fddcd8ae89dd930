use Rattle.std.proofs.Common.{arith}
use Rattle.share_rules.proofs.excess.collects_too_much.Goals as goal

pub loop-end-preserved : goal.loop-end-preserved
loop-end-preserved c = record { within = omega arith; room = c.in-Some.ensures.room; sums = c.in-Some.ensures.totals }
