use Rattle.std.proofs.Common.{◌≡◌, ◌++◌, List, ℕ, take}
use Rattle.society_core.specs.Candidates.{claimants_among}
use Rattle.society_closings.specs.Weighing.{claimants_chosen}
use Rattle.society_closings.proofs.weighing.add_weighed.Given as goal

-- the versions so far are added
abbrev pub invariant-loop-version : goal.invariant-loop-version
invariant-loop-version l = (isrc : List ℕ) → claimants_among l.candidates.items isrc ≡ claimants_among l.initial.candidates.items isrc ++ claimants_chosen l.chosen l.number isrc (take l.version-index l.versions)
