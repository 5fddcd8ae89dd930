use Rattle.std.specs.Prelude.{◌≡◌, ◌+◌, ℕ, List, length}
use Rattle.std.specs.Io.KnownBytes.{Consumes}
use Rattle.society_host.proofs.parting.drop_rest.Given as goal

abbrev pub decreases-loop-allowed : goal.decreases-loop-allowed
decreases-loop-allowed g l = l.allowed

-- what was dropped and what may still be are all that may be, and nothing was written
abbrev pub invariant-loop-allowed : goal.invariant-loop-allowed
invariant-loop-allowed g l =
    (taken : List ℕ) × Consumes (g.S.Stream.remaining l.initial.rest) (g.S.Stream.remaining l.rest) taken × (length taken + l.allowed ≡ 16777216)
    × (g.S.Stream.contents l.rest ≡ g.S.Stream.contents l.initial.rest)
