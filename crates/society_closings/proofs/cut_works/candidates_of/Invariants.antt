use Rattle.std.proofs.Common.{◌≡◌, Ok, flat_map, option_map, take, true}
use Rattle.std.specs.List.{list_all}
use Rattle.sqlite.specs.Held.{state}
use Rattle.society_core.specs.Book.{Book, is_applied}
use Rattle.society_core.specs.Candidates.{StandFor}
use Rattle.society_core.specs.Owners.{versions_at_cut}
use Rattle.society_core.specs.Points.{is_tallied}
use Rattle.society_closings.specs.Choosing.{IsLent}
use Rattle.society_closings.specs.CutWorks.{NotesRecordings, notes_of_sender}
use Rattle.society_book.specs.Sources.{HoldsWorks}
use Rattle.society_book.specs.Steps.{Looks}
use Rattle.society_closings.proofs.cut_works.candidates_of.Given as goal
use Rattle.society_core.specs.Pools.{holders_of}

-- the candidates stand for the works of the senders so far
abbrev pub invariant-loop-key : goal.invariant-loop-key
invariant-loop-key g l = record {
  same_reference : l.tx.conn.ghost_name ≡ l.initial.tx.conn.ghost_name;
  looks : Looks {X = Unit {0}} (state g.S.Store l.initial.tx.conn.now) (state g.S.Store l.tx.conn.now) (Ok tt)
      (λ db _. (book : Book) → HoldsWorks l.weighing.office.now book db → IsLent l.weighing db (option_map (λ w. w.now) l.weighed) → NotesRecordings db (is_tallied l.weighing.tally.now) l.named
      → list_all (λ key. notes_of_sender l.named key.sender) l.cut ≡ true → list_all (is_applied book) l.cut ≡ true
      → StandFor (holders_of l.weighing.kind l.weighing.office.now) (is_tallied l.weighing.tally.now) (flat_map (versions_at_cut l.weighing.office.now book) (take l.key-index l.cut)) l.candidates.items);
}
