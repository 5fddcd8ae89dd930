use Rattle.std.proofs.Common.{◌≡◌, ◌++◌}
use Rattle.share_rules.specs.Blocks.{holders_from}
use Rattle.share_rules.proofs.holding.few_holders.Given as goal

abbrev pub invariant-loop-index : goal.invariant-loop-index
invariant-loop-index l = l.holders.items ++ holders_from l.basis l.records l.index ≡ holders_from l.basis l.records 0
