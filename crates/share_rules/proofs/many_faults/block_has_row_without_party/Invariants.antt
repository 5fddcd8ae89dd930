use Rattle.std.proofs.Common.{◌≡◌, take}
use Rattle.share_rules.specs.Blocks.{AreFound, rows_from}
use Rattle.share_rules.proofs.many_faults.block_has_row_without_party.Given as goal

abbrev pub invariant-loop-index : goal.invariant-loop-index
invariant-loop-index l = record {
  same : rows_from l.records l.index ≡ rows_from l.records l.start;
  kept : AreFound l.keys.keys l.found (take l.index l.records);
}
