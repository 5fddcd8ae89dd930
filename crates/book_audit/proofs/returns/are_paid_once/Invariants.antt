use Rattle.std.proofs.Common.{◌≡◌, Ok, take, true}
use Rattle.std.specs.List.{list_all}
use Rattle.sqlite.specs.Held.{state}
use Rattle.society_book.specs.Steps.{Examines, Never}
use Rattle.book_audit.specs.Standing.{is_paid_once}
use Rattle.book_audit.proofs.returns.are_paid_once.Given as goal

-- each return so far is paid once
abbrev pub invariant-loop-key : goal.invariant-loop-key
invariant-loop-key g l = record {
  same_reference : l.tx.conn.ghost_name ≡ l.fn.tx.conn.ghost_name;
  examined : Examines {X = Unit {0}} Never (state g.S.Store l.fn.tx.conn.now) (state g.S.Store l.tx.conn.now) (Ok tt)
      (λ db _. list_all (is_paid_once db) (take l.key-index l.keys) ≡ true);
}
