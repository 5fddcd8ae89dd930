use Rattle.std.proofs.Common.{◌≡◌, ◌≤◌, sum_by, take}
use Rattle.pool_split.proofs.payable.have_points_within.Given as goal

abbrev pub invariant-loop-claim : goal.invariant-loop-claim
invariant-loop-claim l = record {
  total : l.total ≡ sum_by (λ c. c.points) (take l.claim-index l.claims);
  within : l.total ≤ 1000000000000000000;
}
