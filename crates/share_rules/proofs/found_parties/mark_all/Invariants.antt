use Rattle.std.proofs.Common.{take}
use Rattle.share_rules.specs.Blocks.{AreFound}
use Rattle.share_rules.proofs.found_parties.mark_all.Given as goal

abbrev pub invariant-loop-record : goal.invariant-loop-record
invariant-loop-record l = AreFound l.keys.keys l.found (take l.record-index l.records)
