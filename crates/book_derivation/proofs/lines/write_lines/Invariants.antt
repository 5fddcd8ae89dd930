use Rattle.std.proofs.Common.{◌≡◌, Ok, take}
use Rattle.sqlite.specs.Held.{state}
use Rattle.society_book.specs.RightRows.{KeepsUnsound}
use Rattle.book_derivation.specs.Deriving.{Derives}
use Rattle.book_derivation.proofs.lemmas.SoFar.{WritesSome}
use Rattle.book_derivation.proofs.lines.write_lines.Given as goal

-- the lines of the senders so far are written
abbrev pub invariant-loop-sender : goal.invariant-loop-sender
invariant-loop-sender g l = record {
  same_reference : l.tx.conn.ghost_name ≡ l.initial.tx.conn.ghost_name;
  derives : Derives {X = Unit {0}} KeepsUnsound (state g.S.Store l.initial.tx.conn.now) (state g.S.Store l.tx.conn.now) (Ok tt)
      (λ before after _. WritesSome l.office l.senders (take l.sender-index l.senders) before after);
}
