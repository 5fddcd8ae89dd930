use Rattle.std.specs.Prelude.{◌≡◌, ◌≤◌}
use Rattle.std.specs.Duration.{as_nanos}
use Rattle.std.specs.Io.KnownBytes.{Keeps}
use Rattle.society_host.proofs.patience.Patient.read_on.Given as goal

-- nothing was read by what a signal ended, and no wait is longer than half a minute
abbrev pub invariant-loop : goal.invariant-loop
invariant-loop g l = record {
  kept : Keeps (g.S.Stream.remaining l.initial.self.stream) (g.S.Stream.remaining l.self.stream);
  waits : l.self.waits ≡ l.initial.self.waits;
  left : as_nanos l.left ≤ 30000000000;
}
