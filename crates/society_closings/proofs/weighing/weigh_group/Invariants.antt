use Rattle.std.proofs.Common.{take}
use Rattle.society_core.specs.Points.{is_tallied}
use Rattle.society_closings.specs.Weighing.{WeighsMore}
use Rattle.society_closings.proofs.weighing.weigh_group.Given as goal

-- the transactions so far are weighed
abbrev pub invariant-loop-index : goal.invariant-loop-index
invariant-loop-index l = WeighsMore l.weighing.kind l.weighing.office.now (is_tallied l.weighing.tally.now) l.sender l.first (take l.index l.transactions) l.initial.versions.items l.versions.items
