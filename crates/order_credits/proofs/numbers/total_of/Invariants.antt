use Rattle.std.proofs.Common.{◌≡◌, ◌≤◌, sum, take}
use Rattle.order_credits.proofs.numbers.total_of.Given as goal

abbrev pub invariant-loop-some : goal.invariant-loop-some
invariant-loop-some l = record {
  total : l.total ≡ sum (take l.some-index l.points);
  within : l.total ≤ 1000000000000000000;
}
