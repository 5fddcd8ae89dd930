use Rattle.std.proofs.Common.{◌≡◌, map, take}
use Rattle.society_core.specs.Keys.{return_key}
use Rattle.society_core.proofs.order.return_keys.Given as goal

abbrev pub invariant-loop-reporter : goal.invariant-loop-reporter
invariant-loop-reporter l = l.keys.items ≡ map (λ r. return_key r.0 r.1) (take l.reporter-index l.returns)
