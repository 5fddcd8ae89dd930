use Rattle.works_core.specs.Versions.{work_at}
use Rattle.works_core.proofs.lemmas.CutLemmas.{Walks, ahead}
use Rattle.works_core.proofs.sender_line.SenderLine.work_at.Given as goal

-- what is still looked at ends in the version at the cut
abbrev pub invariant-loop-index : goal.invariant-loop-index
invariant-loop-index l = Walks l.cut l.work (work_at l.self.transmissions l.work l.cut) l.works.versions.items l.index

abbrev pub decreases-loop-index : goal.decreases-loop-index
decreases-loop-index l = ahead l.index
