use Rattle.std.proofs.Common.{◌≡◌, ◌≤◌, length, drop}
use Rattle.share_rules.specs.Blocks.{key_of}
use Rattle.share_rules.proofs.party_keys.key_of.Given as goal

abbrev pub invariant-loop-index : goal.invariant-loop-index
invariant-loop-index l = record {
  within : l.index ≤ length l.bytes;
  left : l.key ≡ key_of l.fn.side (drop l.index l.bytes);
}

abbrev pub decreases-loop-index : goal.decreases-loop-index
decreases-loop-index l = l.index
