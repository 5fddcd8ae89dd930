use Rattle.std.proofs.Common.{◌≡◌, ◌<◌, ℕ, get_or}
use Rattle.works_core.specs.Tracks.{HasEntry, KeepsWorks}
use Rattle.works_core.specs.declared.judged.Judged.{Judged}
use Rattle.works_core.proofs.works.Works.enter_all.Given as goal

-- the works stay, and those of the transactions so far have entries
abbrev pub invariant-loop-judged : goal.invariant-loop-judged
invariant-loop-judged l = record {
  keeps : KeepsWorks l.initial.self l.self;
  entered : (k : ℕ) (x : Judged) → k < l.judged-index → x ≡ get_or l.transactions k x → HasEntry l.self x;
}
