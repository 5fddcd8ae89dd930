use Rattle.std.proofs.Common.{arith}
use Rattle.std.specs.List.Sorted.{IsPermutation}
use Rattle.pool_split.proofs.lemmas.Thresholds.{threshold_is}
use Rattle.pool_split.proofs.threshold.threshold_at.Goals as goal

pub overflow_sub-result : goal.overflow_sub-result
overflow_sub-result c =
    let sorted = rw c.in_ok-sort.was at c.sort.ensures.sorted in
    let same : IsPermutation c.args.remainders.now c.sort.new.self.items = rw c.in_ok-rising.ensures.items at c.sort.ensures.permutation in
    let threshold = threshold_is c.args.remainders.now c.sort.new.self.items c.args.units c.index-remainder.result.now c.index-remainder.result.now same sorted c.requires.some c.requires.few c.index-remainder.ensures in
    omega (arith, threshold.0, c.count_above-above.ensures)

pub returns : goal.returns
returns c =
    let sorted = rw c.in_ok-sort.was at c.sort.ensures.sorted in
    let same : IsPermutation c.args.remainders.now c.sort.new.self.items = rw c.in_ok-rising.ensures.items at c.sort.ensures.permutation in
    let threshold = threshold_is c.args.remainders.now c.sort.new.self.items c.args.units c.index-remainder.result.now c.index-remainder.result.now same sorted c.requires.some c.requires.few c.index-remainder.ensures in
    rw c.count_above-above.ensures threshold.1
