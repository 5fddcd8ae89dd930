use Rattle.std.proofs.Common.{◌≡◌, ◌≤◌, ◌*◌, Ok, flat_map, length, take}
use Rattle.share_rules.specs.declared.office.Office.{Office}
use Rattle.sqlite.specs.Held.{state}
use Rattle.society_core.specs.Book.{Book}
use Rattle.society_core.specs.Candidates.{rows_of_return}
use Rattle.society_core.specs.Points.{Tallies}
use Rattle.society_book.specs.Sources.{HoldsWorks}
use Rattle.society_book.specs.Steps.{Looks}
use Rattle.society_closings.proofs.paying.tally_of.Given as goal

abbrev pub invariant-loop-key : goal.invariant-loop-key
invariant-loop-key g l = record {
  same_reference : l.tx.conn.ghost_name ≡ l.initial.tx.conn.ghost_name;
  looks : Looks {X = Unit {0}} (state g.S.Store l.initial.tx.conn.now) (state g.S.Store l.tx.conn.now) (Ok tt)
      (λ db _. (office : Office) (book : Book) → HoldsWorks office book db → length l.returns ≤ 1000
      → Tallies l.tally (flat_map (rows_of_return book) (take l.key-index l.returns)) × (length (flat_map (rows_of_return book) (take l.key-index l.returns)) ≤ l.key-index * 10000));
}
