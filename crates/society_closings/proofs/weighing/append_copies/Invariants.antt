use Rattle.std.proofs.Common.{◌≡◌, ◌++◌, take}
use Rattle.society_closings.proofs.weighing.append_copies.Given as goal

-- the candidates so far are appended
abbrev pub invariant-loop-candidate : goal.invariant-loop-candidate
invariant-loop-candidate l = l.candidates.items ≡ l.initial.candidates.items ++ take l.candidate-index l.some
