use Rattle.std.proofs.Common.{take}
use Rattle.credit_listing.specs.Spelled.{IsSetOf}
use Rattle.credit_listing.proofs.order_line.set_of.Given as goal

-- the set has those that came so far
abbrev pub invariant-loop-isrc : goal.invariant-loop-isrc
invariant-loop-isrc l = IsSetOf (take l.isrc-index l.recordings) l.set
