use Rattle.std.proofs.Common.{◌≡◌, ◌-◌, take, map}
use Rattle.std.specs.List.{sum}
use Rattle.share_rules.specs.Weights.{whole_right}
use Rattle.share_rules.proofs.weighing.unclaimed_beside.Given as goal

abbrev pub invariant-loop-holder : goal.invariant-loop-holder
invariant-loop-holder l = l.weight ≡ whole_right - sum (map (λ h. h.weight) (take l.holder-index l.holders))
