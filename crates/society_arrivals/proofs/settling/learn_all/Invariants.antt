use Rattle.std.proofs.Common.{◌≡◌, Ok, false, take}
use Rattle.share_rules.specs.declared.office.Office.{Office}
use Rattle.sqlite.specs.Held.{state}
use Rattle.society_core.specs.Book.{Book}
use Rattle.society_book.specs.Kept.{HoldsBook}
use Rattle.society_arrivals.specs.Runs.{is_key_among}
use Rattle.society_book.specs.DerivedRows.{line_at_front}
use Rattle.society_book.specs.Steps.{Looks}
use Rattle.society_arrivals.proofs.settling.learn_all.Given as goal
use Rattle.works_core.specs.Ends.{EndsAt}

abbrev pub invariant-loop-work : goal.invariant-loop-work
invariant-loop-work g l = record {
  same_reference : l.tx.conn.ghost_name ≡ l.initial.tx.conn.ghost_name;
  looks : Looks {X = Unit {0}} (state g.S.Store l.initial.tx.conn.now) (state g.S.Store l.tx.conn.now) (Ok tt)
      (λ db _. (office : Office) (book : Book) → HoldsBook office book db → EndsAt (λ _. false) (line_at_front office book l.sender) l.initial.end
      → EndsAt (is_key_among (take l.work-index l.works)) (line_at_front office book l.sender) l.end);
}
