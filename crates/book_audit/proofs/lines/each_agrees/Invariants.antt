use Rattle.std.proofs.Common.{◌≡◌, Ok, take}
use Rattle.sqlite.specs.Held.{state}
use Rattle.society_book.specs.Steps.{Examines}
use Rattle.book_audit.specs.LineSteps.{DeniesLines, FindsLines}
use Rattle.book_audit.proofs.lines.each_agrees.Given as goal

-- the senders so far have their lines
abbrev pub invariant-loop-sender : goal.invariant-loop-sender
invariant-loop-sender g l = record {
  same_reference : l.tx.conn.ghost_name ≡ l.initial.tx.conn.ghost_name;
  examined : Examines {X = Unit {0}} (DeniesLines l.office l.senders) (state g.S.Store l.initial.tx.conn.now) (state g.S.Store l.tx.conn.now) (Ok tt)
      (λ db _. FindsLines l.office (take l.sender-index l.senders) db);
}
