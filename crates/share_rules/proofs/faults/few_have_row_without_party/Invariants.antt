use Rattle.std.proofs.Common.{◌≡◌, [], take, drop}
use Rattle.share_rules.specs.Fault.{has_row_without_party}
use Rattle.share_rules.proofs.faults.few_have_row_without_party.Given as goal

abbrev pub invariant-loop-index : goal.invariant-loop-index
invariant-loop-index l = has_row_without_party (take l.index l.records) (drop l.index l.records) ≡ has_row_without_party [] l.records
