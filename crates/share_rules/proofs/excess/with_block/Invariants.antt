use Rattle.std.proofs.Common.{◌≡◌, ◌≤◌, false, drop}
use Rattle.share_rules.specs.Blocks.{AreLatest, collected_behind}
use Rattle.share_rules.specs.Steps.{is_exceeded}
use Rattle.share_rules.proofs.excess.with_block.Given as goal

abbrev pub invariant-loop-index : goal.invariant-loop-index
invariant-loop-index l = record {
  order : l.start ≤ l.index;
  within : l.index ≤ l.fn.end;
  room : is_exceeded l.totals ≡ false;
  sums : l.totals ≡ collected_behind l.office l.records l.index;
  kept : AreLatest l.office l.keys.keys l.latest (drop l.index l.records);
}

abbrev pub decreases-loop-index : goal.decreases-loop-index
decreases-loop-index l = l.index
