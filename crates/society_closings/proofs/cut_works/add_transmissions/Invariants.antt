use Rattle.std.proofs.Common.{◌≡◌, Ok, option_map, take}
use Rattle.sqlite.specs.Held.{state}
use Rattle.society_core.specs.Book.{Book}
use Rattle.society_core.specs.Candidates.{AddsCandidates}
use Rattle.society_core.specs.Points.{is_tallied}
use Rattle.society_closings.specs.Choosing.{IsLent}
use Rattle.society_closings.specs.CutWorks.{ChoosesNaming}
use Rattle.society_book.specs.Sources.{HoldsWorks}
use Rattle.society_book.specs.Steps.{Looks}
use Rattle.society_closings.proofs.lemmas.cuts.CutSets.{versions_in}
use Rattle.society_closings.proofs.cut_works.add_transmissions.Given as goal
use Rattle.society_core.specs.Pools.{holders_of}

-- the transmissions so far are added
abbrev pub invariant-loop-number : goal.invariant-loop-number
invariant-loop-number g l = record {
  same_reference : l.tx.conn.ghost_name ≡ l.initial.tx.conn.ghost_name;
  looks : Looks {X = Unit {0}} (state g.S.Store l.initial.tx.conn.now) (state g.S.Store l.tx.conn.now) (Ok tt)
      (λ db _. (book : Book) → HoldsWorks l.weighing.office.now book db → IsLent l.weighing db (option_map (λ w. w.now) l.weighed) → ChoosesNaming l.weighing.office.now book l.key (is_tallied l.weighing.tally.now) l.chosen
      → AddsCandidates (holders_of l.weighing.kind l.weighing.office.now) (is_tallied l.weighing.tally.now) (versions_in l.weighing.office.now book l.key (take l.number-index l.number-items)) l.initial.candidates.items l.candidates.items);
}
