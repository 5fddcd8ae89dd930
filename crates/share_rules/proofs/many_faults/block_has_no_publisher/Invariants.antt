use Rattle.std.proofs.Common.{◌≡◌, drop}
use Rattle.std.specs.List.{list_any}
use Rattle.share_rules.specs.Fault.{names_no_publisher}
use Rattle.share_rules.proofs.many_faults.block_has_no_publisher.Given as goal

abbrev pub invariant-loop-record : goal.invariant-loop-record
invariant-loop-record l = list_any (names_no_publisher l.records) (drop l.record-index l.block) ≡ list_any (names_no_publisher l.records) l.block
