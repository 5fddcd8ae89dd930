use Rattle.std.proofs.Common.{take}
use Rattle.society_core.specs.Claims.{Indexes}
use Rattle.society_core.proofs.claim_list.found_by_isrc.Given as goal

abbrev pub invariant-loop-place : goal.invariant-loop-place
invariant-loop-place l = Indexes l.found (take l.place l.candidates)
