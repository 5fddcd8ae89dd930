use Rattle.std.proofs.Common.{take}
use Rattle.society_closings.specs.CutWorks.{NotesListed, NotesMore}
use Rattle.society_closings.proofs.named_works.NamedWorks.note_all.Given as goal

-- the works so far are noted
abbrev pub invariant-loop-sender : goal.invariant-loop-sender
invariant-loop-sender l = record {
  more : NotesMore l.initial.self l.self;
  noted : NotesListed (take l.sender-index l.works) l.self;
}
