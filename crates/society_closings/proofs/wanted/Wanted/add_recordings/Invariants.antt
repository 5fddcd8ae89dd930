use Rattle.std.proofs.Common.{◌≡◌, ◌||◌, List, ℕ, bytes_eq, take}
use Rattle.std.specs.BTreeSet.{contains}
use Rattle.std.specs.List.{list_any}
use Rattle.society_core.specs.Keys.{bytes_cmp}
use Rattle.society_closings.proofs.wanted.Wanted.add_recordings.Given as goal

-- the recordings so far are there
abbrev pub invariant-loop-isrc : goal.invariant-loop-isrc
invariant-loop-isrc l = record {
  recordings : (isrc : List ℕ) → contains bytes_cmp l.self.recordings isrc ≡ (contains bytes_cmp l.initial.self.recordings isrc || list_any (bytes_eq isrc) (take l.isrc-index l.recordings));
  senders : l.self.senders ≡ l.initial.self.senders;
}
