use Rattle.std.proofs.Common.{◌≤◌, length, drop}
use Rattle.share_rules.specs.Blocks.{AreLatest}
use Rattle.share_rules.proofs.latest_shares.note_all.Given as goal

abbrev pub invariant-loop-end : goal.invariant-loop-end
invariant-loop-end l = record {
  within : l.end ≤ length l.records;
  kept : AreLatest l.office l.keys.keys l.latest (drop l.end l.records);
}

abbrev pub decreases-loop-end : goal.decreases-loop-end
decreases-loop-end l = l.end
