use Rattle.std.proofs.Common.{◌≡◌}
use Rattle.society_host.proofs.listening.accept.Given as goal

-- no connection came in yet
abbrev pub invariant-loop : goal.invariant-loop
invariant-loop g l = l.listener ≡ l.initial.listener
