use Rattle.std.proofs.Common.{◌≡◌, ℕ, List, ◌++◌, length}
use Rattle.std.specs.Io.KnownBytes.{Appends}
use Rattle.http_desk.proofs.counted.Counted.write_all.Given as goal

abbrev pub invariant-loop-rest : goal.invariant-loop-rest
invariant-loop-rest g l =
    (done : List ℕ) × (l.bytes ≡ done ++ l.rest)
    × Appends (g.W.Write.contents l.initial.self.inner) (g.W.Write.contents l.self.inner) done
    × (l.self.failures ≡ l.initial.self.failures)
    × (l.self.reads ≡ l.initial.self.reads)

abbrev pub decreases-loop-rest : goal.decreases-loop-rest
decreases-loop-rest g l = length l.rest
