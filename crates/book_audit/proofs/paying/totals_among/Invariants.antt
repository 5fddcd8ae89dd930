use Rattle.std.proofs.Common.{◌≡◌, Ok, take}
use Rattle.sqlite.specs.Held.{state}
use Rattle.society_book.specs.Steps.{Examines}
use Rattle.book_audit.specs.Paying.{FindsPaid, LackPools, ListsForAll}
use Rattle.book_audit.proofs.paying.totals_among.Given as goal

-- the pools so far pay what their lines say, and accounts have come to this by them
abbrev pub invariant-loop-one : goal.invariant-loop-one
invariant-loop-one g l = record {
  same_reference : l.tx.conn.ghost_name ≡ l.fn.tx.conn.ghost_name;
  examined : Examines {X = Unit {0}} (λ db. ListsForAll l.office l.closed db l.works → LackPools l.office l.closed db) (state g.S.Store l.fn.tx.conn.now) (state g.S.Store l.tx.conn.now) (Ok tt)
      (λ db _. ListsForAll l.office l.closed db l.works → FindsPaid l.office l.closed (take l.one-index l.closed) db l.totals);
}
