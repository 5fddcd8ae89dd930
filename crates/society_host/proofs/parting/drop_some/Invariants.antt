use Rattle.std.specs.Prelude.{◌≡◌}
use Rattle.std.specs.Io.KnownBytes.{Keeps}
use Rattle.society_host.proofs.parting.drop_some.Given as goal

-- nothing was taken by what a signal ended, and nothing written
abbrev pub invariant-loop : goal.invariant-loop
invariant-loop g l = Keeps (g.S.Stream.remaining l.initial.rest) (g.S.Stream.remaining l.rest) × (g.S.Stream.contents l.rest ≡ g.S.Stream.contents l.initial.rest)
