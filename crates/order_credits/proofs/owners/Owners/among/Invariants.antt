use Rattle.std.proofs.Common.{take}
use Rattle.order_credits.specs.Looked.{KeepsOwners}
use Rattle.order_credits.proofs.owners.Owners.among.Given as goal

abbrev pub invariant-loop-place : goal.invariant-loop-place
invariant-loop-place l = KeepsOwners l.places (take l.place l.candidates)
