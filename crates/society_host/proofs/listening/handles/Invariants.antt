use Rattle.std.proofs.Common.{◌≡◌}
use Rattle.society_host.proofs.listening.handles.Given as goal

-- a connection that can have no two handles comes back as it was
abbrev pub invariant-loop : goal.invariant-loop
invariant-loop g l = l.rest ≡ l.fn.came
