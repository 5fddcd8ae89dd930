use Rattle.std.proofs.Common.{◌≡◌, ◌≤◌, length, reverse}
use Rattle.share_rules.specs.Blocks.{holders_from}
use Rattle.share_rules.proofs.holding.many_holders.Given as goal

abbrev pub invariant-loop-end : goal.invariant-loop-end
invariant-loop-end l = record {
  within : l.end ≤ length l.records;
  held : l.holders.items ≡ reverse (holders_from l.basis l.records l.end);
}

abbrev pub decreases-loop-end : goal.decreases-loop-end
decreases-loop-end l = l.end
