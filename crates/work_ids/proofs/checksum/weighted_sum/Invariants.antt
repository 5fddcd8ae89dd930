use Rattle.std.proofs.Common.{◌≡◌, ◌≤◌, ◌+◌, ◌*◌}
use Rattle.work_ids.proofs.lemmas.Sums.{weighted}
use Rattle.work_ids.proofs.checksum.weighted_sum.Given as goal

abbrev pub invariant-loop-index : goal.invariant-loop-index
invariant-loop-index l = record {
  total : l.sum ≡ 1 + weighted l.digits l.index;
  bound : l.sum ≤ 1 + 1863 * l.index;
}
