use Rattle.std.proofs.Common.{◌≡◌, List, ℕ, bytes_eq, take}
use Rattle.std.specs.BTreeSet.{contains}
use Rattle.std.specs.List.{list_any}
use Rattle.society_core.specs.Keys.{bytes_cmp}
use Rattle.society_closings.proofs.weighed_works.recordings_of.Given as goal

-- the recordings so far are there
abbrev pub invariant-loop-isrc : goal.invariant-loop-isrc
invariant-loop-isrc l = (isrc : List ℕ) → contains bytes_cmp l.set isrc ≡ list_any (bytes_eq isrc) (take l.isrc-index l.isrc-items)
