use Rattle.std.proofs.Common.{◌≡◌, map, take}
use Rattle.std.specs.List.{zip}
use Rattle.pool_split.specs.Credits.{claim_credits}
use Rattle.pool_split.proofs.crediting.portions_by.Given as goal

abbrev pub invariant-loop-place : goal.invariant-loop-place
invariant-loop-place l = l.list.items ≡ map (λ paid. claim_credits paid.0 paid.1) (take l.place (zip l.claims l.parts))
