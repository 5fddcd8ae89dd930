use Rattle.std.proofs.Common.{◌≡◌, List, ℕ, bytes_eq, take, true}
use Rattle.std.specs.List.{list_any}
use Rattle.society_closings.specs.CutWorks.{NotesListed, is_of_cut, notes_of_sender, works_listed}
use Rattle.work_ids.specs.Isrc.{is_isrc}
use Rattle.society_closings.proofs.works_by_recording.WorksByRecording.named_works.Given as goal

-- what is listed under the recordings so far is noted
abbrev pub invariant-loop-isrc : goal.invariant-loop-isrc
invariant-loop-isrc l = record {
  senders : (sender : List ℕ) → notes_of_sender l.named sender ≡ is_of_cut l.cut sender;
  listed : (isrc : List ℕ) → list_any (bytes_eq isrc) (take l.isrc-index l.recordings) ≡ true → (is_isrc isrc ≡ true) × NotesListed (works_listed l.self isrc) l.named;
}
