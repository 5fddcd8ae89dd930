use Rattle.std.proofs.Common.{◌≡◌, ◌≤◌, ◌-◌, drop, length}
use Rattle.std.specs.List.{list_any}
use Rattle.share_rules.specs.Fault.{names_no_publisher}
use Rattle.share_rules.proofs.many_faults.many_have_no_publisher.Given as goal

abbrev pub invariant-loop-start : goal.invariant-loop-start
invariant-loop-start l = record {
  within : l.start ≤ length l.records;
  same : list_any (names_no_publisher l.records) (drop l.start l.records) ≡ list_any (names_no_publisher l.records) l.records;
}

abbrev pub decreases-loop-start : goal.decreases-loop-start
decreases-loop-start l = length l.records - l.start
