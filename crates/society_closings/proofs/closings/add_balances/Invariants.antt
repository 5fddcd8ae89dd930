use Rattle.std.proofs.Common.{◌≡◌, Ok, take}
use Rattle.sqlite.specs.Held.{state}
use Rattle.society_closings.specs.Closings.{AddsEach}
use Rattle.society_book.specs.Steps.{Does}
use Rattle.society_closings.proofs.closings.add_balances.Given as goal

abbrev pub invariant-loop-credit : goal.invariant-loop-credit
invariant-loop-credit g l = record {
  same_reference : l.tx.conn.ghost_name ≡ l.initial.tx.conn.ghost_name;
  does : Does {X = Unit {0}} (state g.S.Store l.initial.tx.conn.now) (state g.S.Store l.tx.conn.now) (Ok tt) (λ before after _. AddsEach (take l.credit-index l.credits) before after);
}
