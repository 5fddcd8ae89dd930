use Rattle.std.proofs.Common.{ℕ, ◌<◌, get_or}
use Rattle.pool_split.specs.Credits.{IsPayable}
use Rattle.pool_split.specs.declared.claim.Claim.{Claim}
use Rattle.pool_split.proofs.payable.is_each_payable.Given as goal

abbrev pub invariant-loop-claim : goal.invariant-loop-claim
invariant-loop-claim l = (k : ℕ) (d : Claim) → k < l.claim-index → IsPayable (get_or l.claims k d)
