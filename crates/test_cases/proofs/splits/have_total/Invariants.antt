use Rattle.std.proofs.Common.{◌≡◌, ◌≤◌, sum, take}
use Rattle.test_cases.proofs.splits.have_total.Given as goal

abbrev pub invariant-loop-weight : goal.invariant-loop-weight
invariant-loop-weight l = record {
  total : l.total ≡ sum (take l.weight-index l.weights);
  within : l.total ≤ 1000000000000000000;
}
