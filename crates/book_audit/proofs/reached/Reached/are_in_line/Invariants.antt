use Rattle.std.proofs.Common.{◌≡◌, Ok, take, true}
use Rattle.std.specs.List.{list_all}
use Rattle.sqlite.specs.Held.{state}
use Rattle.society_core.specs.Book.{is_applied}
use Rattle.society_book.specs.Steps.{Examines}
use Rattle.book_audit.specs.Standing.{HoldsNoLines, KnowsReach, OfLines}
use Rattle.book_audit.proofs.reached.Reached.are_in_line.Given as goal

-- the numbers so far are in their senders' lines
abbrev pub invariant-loop-key : goal.invariant-loop-key
invariant-loop-key g l = record {
  same_reference : l.tx.conn.ghost_name ≡ l.fn.tx.conn.ghost_name;
  examined : Examines {X = Unit {0}} HoldsNoLines (state g.S.Store l.fn.tx.conn.now) (state g.S.Store l.tx.conn.now) (Ok tt)
      (λ db _. KnowsReach db l.fn.self → KnowsReach db l.self × OfLines (λ book. list_all (is_applied book) (take l.key-index l.cut) ≡ true) db);
}
