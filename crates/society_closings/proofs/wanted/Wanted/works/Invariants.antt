use Rattle.std.proofs.Common.{◌≡◌, Ok, bytes_eq, take}
use Rattle.std.specs.List.{list_any}
use Rattle.sqlite.specs.Held.{state}
use Rattle.society_book.specs.Steps.{Looks}
use Rattle.society_closings.specs.CutWorks.{ListsSender}
use Rattle.society_closings.proofs.wanted.Wanted.works.Given as goal

-- the works of the senders so far are listed
abbrev pub invariant-loop-sender : goal.invariant-loop-sender
invariant-loop-sender g l = record {
  same_reference : l.tx.conn.ghost_name ≡ l.initial.tx.conn.ghost_name;
  looks : Looks {X = Unit {0}} (state g.S.Store l.initial.tx.conn.now) (state g.S.Store l.tx.conn.now) (Ok tt)
      (λ db _. ListsSender (λ sender. list_any (λ one. bytes_eq one sender) (take l.sender-index l.sender-items)) l.fn.self.recordings l.works db);
}
