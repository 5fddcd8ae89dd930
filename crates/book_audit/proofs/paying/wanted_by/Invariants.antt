use Rattle.std.proofs.Common.{◌≡◌, Ok, take}
use Rattle.sqlite.specs.Held.{state}
use Rattle.society_book.specs.Steps.{Examines}
use Rattle.book_audit.specs.Paying.{CannotPayAny, WantsAll}
use Rattle.book_audit.proofs.paying.wanted_by.Given as goal

-- what the pools so far look for is wanted
abbrev pub invariant-loop-one : goal.invariant-loop-one
invariant-loop-one g l = record {
  same_reference : l.tx.conn.ghost_name ≡ l.fn.tx.conn.ghost_name;
  examined : Examines {X = Unit {0}} (CannotPayAny l.closed) (state g.S.Store l.fn.tx.conn.now) (state g.S.Store l.tx.conn.now) (Ok tt)
      (λ db _. WantsAll (take l.one-index l.closed) db l.wanted);
}
