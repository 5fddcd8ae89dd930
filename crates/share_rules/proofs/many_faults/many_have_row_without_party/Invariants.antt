use Rattle.std.proofs.Common.{◌≡◌, ◌≤◌, ◌-◌, [], length}
use Rattle.share_rules.specs.Blocks.{rows_from}
use Rattle.share_rules.specs.Fault.{has_row_without_party}
use Rattle.share_rules.proofs.many_faults.many_have_row_without_party.Given as goal

abbrev pub invariant-loop-start : goal.invariant-loop-start
invariant-loop-start l = record {
  within : l.start ≤ length l.records;
  same : rows_from l.records l.start ≡ has_row_without_party [] l.records;
}

abbrev pub decreases-loop-start : goal.decreases-loop-start
decreases-loop-start l = length l.records - l.start
