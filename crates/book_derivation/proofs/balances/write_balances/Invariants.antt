use Rattle.std.proofs.Common.{◌≡◌, Ok}
use Rattle.sqlite.specs.Held.{state}
use Rattle.society_book.specs.Steps.{Never}
use Rattle.book_derivation.specs.Deriving.{Derives}
use Rattle.book_derivation.proofs.lemmas.money.BalanceSteps.{WritesUpTo}
use Rattle.book_derivation.proofs.balances.write_balances.Given as goal

-- the balances of the accounts so far are added
abbrev pub invariant-loop-account : goal.invariant-loop-account
invariant-loop-account g l = record {
  same_reference : l.tx.conn.ghost_name ≡ l.fn.tx.conn.ghost_name;
  derives : Derives {X = Unit {0}} Never (state g.S.Store l.fn.tx.conn.now) (state g.S.Store l.tx.conn.now) (Ok tt)
      (λ before after _. WritesUpTo l.totals.units.entries l.account-iterator before after);
}
