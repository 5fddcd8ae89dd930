use Rattle.std.proofs.Common.{◌≡◌, ◌≤◌, sum_by, take}
use Rattle.pool_split.proofs.payable.have_weights.Given as goal

abbrev pub invariant-loop-holder : goal.invariant-loop-holder
invariant-loop-holder l = record {
  total : l.total ≡ sum_by (λ h. h.weight) (take l.holder-index l.holders);
  within : l.total ≤ 1000000000000000000;
}
