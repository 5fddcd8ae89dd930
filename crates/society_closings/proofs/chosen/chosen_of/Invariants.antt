use Rattle.std.proofs.Common.{◌≡◌, Ok, bytes_eq, take, true}
use Rattle.std.specs.List.{list_any}
use Rattle.share_rules.specs.declared.office.Office.{Office}
use Rattle.sqlite.specs.Held.{state}
use Rattle.society_core.specs.Book.{Book, is_applied}
use Rattle.society_closings.specs.CutWorks.{Chooses}
use Rattle.society_book.specs.Sources.{HoldsWorks}
use Rattle.society_book.specs.Steps.{Looks}
use Rattle.society_closings.proofs.chosen.chosen_of.Given as goal

-- the versions of the works so far are chosen
abbrev pub invariant-loop-work : goal.invariant-loop-work
invariant-loop-work g l = record {
  same_reference : l.tx.conn.ghost_name ≡ l.initial.tx.conn.ghost_name;
  looks : Looks {X = Unit {0}} (state g.S.Store l.initial.tx.conn.now) (state g.S.Store l.tx.conn.now) (Ok tt)
      (λ db _. (office : Office) (book : Book) → HoldsWorks office book db → is_applied book l.key ≡ true
      → Chooses office book l.key (λ work. list_any (bytes_eq work) (take l.work-index l.works)) l.chosen);
}
