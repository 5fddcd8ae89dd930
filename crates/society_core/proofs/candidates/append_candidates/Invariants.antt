use Rattle.std.proofs.Common.{◌≡◌, ◌++◌, map, take}
use Rattle.society_core.specs.Candidates.{candidate_with}
use Rattle.society_core.proofs.candidates.append_candidates.Given as goal

-- each recording so far has its candidate
abbrev pub invariant-loop-isrc : goal.invariant-loop-isrc
invariant-loop-isrc l = l.candidates.items ≡ l.initial.candidates.items ++ map (candidate_with l.sender l.work l.holders) (take l.isrc-index l.isrcs)
