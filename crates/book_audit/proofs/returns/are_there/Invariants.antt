use Rattle.std.proofs.Common.{◌≡◌, Ok, is_some, take, true}
use Rattle.std.specs.List.{list_all}
use Rattle.sqlite.specs.Held.{state}
use Rattle.society_core.specs.Book.{return_at}
use Rattle.society_book.specs.Steps.{Examines, Never}
use Rattle.book_audit.specs.Standing.{OfLines}
use Rattle.book_audit.proofs.returns.are_there.Given as goal

-- the returns so far are there
abbrev pub invariant-loop-key : goal.invariant-loop-key
invariant-loop-key g l = record {
  same_reference : l.tx.conn.ghost_name ≡ l.fn.tx.conn.ghost_name;
  examined : Examines {X = Unit {0}} Never (state g.S.Store l.fn.tx.conn.now) (state g.S.Store l.tx.conn.now) (Ok tt)
      (λ db _. OfLines (λ book. list_all (λ key. is_some (return_at book key)) (take l.key-index l.keys) ≡ true) db);
}
