use Rattle.std.proofs.Common.{◌≡◌, ◌≤◌, drop, reverse}
use Rattle.share_rules.specs.Blocks.{AreLatest, holders_from}
use Rattle.share_rules.proofs.holding.push_block.Given as goal

abbrev pub invariant-loop-index : goal.invariant-loop-index
invariant-loop-index l = record {
  order : l.start ≤ l.index;
  within : l.index ≤ l.fn.end;
  held : l.holders.items ≡ reverse (holders_from l.basis l.records l.index);
  kept : AreLatest l.basis.office.now l.keys.keys l.latest (drop l.index l.records);
}

abbrev pub decreases-loop-index : goal.decreases-loop-index
decreases-loop-index l = l.index
