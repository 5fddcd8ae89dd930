use Rattle.std.proofs.Common.{◌≡◌, Ok, map, take, true}
use Rattle.std.specs.List.{AllByRecursion}
use Rattle.sqlite.specs.Held.{state}
use Rattle.society_book.specs.Steps.{Examines, Never}
use Rattle.society_rows.specs.Layout as layout
use Rattle.society_rows.specs.Reads.{ListsKeys}
use Rattle.society_book.specs.BookRows.{transmission_key_of}
use Rattle.book_audit.specs.Judging.{is_sent_at}
use Rattle.book_audit.proofs.sent.sent_in.Given as goal

-- the rows are the keys of all transmissions, and each so far is that of one right transmission
abbrev pub invariant-loop-row : goal.invariant-loop-row
invariant-loop-row g l = record {
  same_reference : l.tx.conn.ghost_name ≡ l.fn.tx.conn.ghost_name;
  examined : Examines {X = Unit {0}} Never (state g.S.Store l.fn.tx.conn.now) (state g.S.Store l.tx.conn.now) (Ok tt)
      (λ db _. ListsKeys layout.transmissions (λ _. true) 2 db l.row-items × AllByRecursion (λ key. is_sent_at db key ≡ true) (take l.row-index l.row-items)
      × (l.keys.items ≡ map transmission_key_of (take l.row-index l.row-items)));
}
