use Rattle.std.proofs.Common.{◌≡◌, drop, find}
use Rattle.ack_files.specs.Acknowledgement.{has_transactions}
use Rattle.ack_files.proofs.acknowledgement.opening.Given as goal

-- the first one is not among those before
abbrev pub invariant-loop-group : goal.invariant-loop-group
invariant-loop-group l = find has_transactions (drop l.group-index l.groups) ≡ find has_transactions l.groups
