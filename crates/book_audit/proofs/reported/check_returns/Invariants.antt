use Rattle.std.proofs.Common.{◌≡◌, Ok, take, true}
use Rattle.std.specs.List.{AllByRecursion}
use Rattle.sqlite.specs.Held.{state}
use Rattle.society_book.specs.Steps.{Examines, Never}
use Rattle.society_rows.specs.Layout as layout
use Rattle.society_rows.specs.Reads.{ListsKeys}
use Rattle.book_audit.specs.Judging.{is_reported_at}
use Rattle.book_audit.proofs.reported.check_returns.Given as goal

-- the rows are the keys of all returns, and each so far is that of one right return
abbrev pub invariant-loop-row : goal.invariant-loop-row
invariant-loop-row g l = record {
  same_reference : l.tx.conn.ghost_name ≡ l.fn.tx.conn.ghost_name;
  examined : Examines {X = Unit {0}} Never (state g.S.Store l.fn.tx.conn.now) (state g.S.Store l.tx.conn.now) (Ok tt)
      (λ db _. ListsKeys layout.returns (λ _. true) 2 db l.row-items × AllByRecursion (λ key. is_reported_at db key ≡ true) (take l.row-index l.row-items));
}
