use Rattle.std.proofs.Common.{◌≡◌, take}
use Rattle.society_core.specs.Claims.{claims_among}
use Rattle.society_core.proofs.claim_list.claims.Given as goal

abbrev pub invariant-loop-played : goal.invariant-loop-played
invariant-loop-played l = l.claims.items ≡ claims_among (take l.played-index l.points) l.candidates
