use Rattle.std.proofs.Common.{◌≡◌, option_map, take}
use Rattle.order_credits.specs.Looked.{sought}
use Rattle.order_credits.proofs.sought.sought_of.Given as goal

abbrev pub invariant-loop-recording : goal.invariant-loop-recording
invariant-loop-recording l = l.list.items ≡ sought (option_map (λ set. set.now) l.fn.wanted) (take l.recording-index l.played)
