use Rattle.std.proofs.Common.{◌≡◌, ◌||◌, List, ℕ, take}
use Rattle.std.specs.BTreeSet.{contains}
use Rattle.society_core.specs.Keys.{bytes_cmp}
use Rattle.society_closings.specs.CutWorks.{is_of_cut}
use Rattle.society_closings.proofs.wanted.Wanted.add_senders.Given as goal

-- the senders so far are there
abbrev pub invariant-loop-key : goal.invariant-loop-key
invariant-loop-key l = record {
  senders : (sender : List ℕ) → contains bytes_cmp l.self.senders sender ≡ (contains bytes_cmp l.initial.self.senders sender || is_of_cut (take l.key-index l.cut) sender);
  recordings : l.self.recordings ≡ l.initial.self.recordings;
}
