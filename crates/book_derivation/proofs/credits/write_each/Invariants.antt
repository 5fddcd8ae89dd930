use Rattle.std.proofs.Common.{◌≡◌, Ok, take}
use Rattle.sqlite.specs.Held.{state}
use Rattle.book_audit.specs.Paying.{ListsForAll}
use Rattle.book_derivation.specs.Deriving.{Derives}
use Rattle.book_derivation.specs.Money.{CannotPayListed}
use Rattle.book_derivation.proofs.lemmas.money.CreditSteps.{WritesSome}
use Rattle.book_derivation.proofs.credits.write_each.Given as goal

-- the lines of the pools so far are added, and accounts have come to this by them
abbrev pub invariant-loop-one : goal.invariant-loop-one
invariant-loop-one g l = record {
  same_reference : l.tx.conn.ghost_name ≡ l.fn.tx.conn.ghost_name;
  derives : Derives {X = Unit {0}} (CannotPayListed l.office l.closed l.works) (state g.S.Store l.fn.tx.conn.now) (state g.S.Store l.tx.conn.now) (Ok tt)
      (λ before after _. ListsForAll l.office l.closed before l.works → WritesSome l.office l.closed (take l.one-index l.closed) before after l.totals);
}
