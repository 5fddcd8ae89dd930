use Rattle.std.proofs.Common.{◌≡◌, [], flat_map, length, take}
use Rattle.society_core.specs.Points.{is_tallied}
use Rattle.society_closings.specs.Weighing.{WeighsMore}
use Rattle.society_closings.proofs.weighing.weigh_groups.Given as goal

-- the groups so far are weighed
abbrev pub invariant-loop-group : goal.invariant-loop-group
invariant-loop-group l = record {
  place : l.place ≡ length (flat_map (λ g. g.transactions) (take l.group-index l.group-items));
  weighs : WeighsMore l.weighing.kind l.weighing.office.now (is_tallied l.weighing.tally.now) l.sender 0 (flat_map (λ g. g.transactions) (take l.group-index l.group-items)) [] l.versions.items;
}
