use Rattle.std.proofs.Common.{Err, Ok, Vec, subst, rules}
use Rattle.std.specs.declared.alloc.Global.{Global}
use Rattle.sqlite.specs.Held.{state}
use Rattle.sqlite_trees.specs.Tree.{Trees}
use Rattle.society_book.specs.Steps.{Never}
use Rattle.book_audit.specs.OwnRows.{LacksReached}
use Rattle.book_audit.specs.Standing.{FindsOrders}
use Rattle.book_audit.specs.declared.pool_orders.ClosedPool.{ClosedPool}
use Rattle.book_audit.specs.declared.totals.Totals.{Totals}
use Rattle.book_audit.specs.Paying.{CannotPayAll}
use Rattle.book_derivation.specs.Money.{LacksLined, WritesBalances, WritesCredits}
use Rattle.book_derivation.proofs.lemmas.Derivings.{derives_examined, derives_not, derives_then}
use Rattle.book_derivation.proofs.lemmas.money.LinedBooks.{not_lined}
use Rattle.book_derivation.proofs.lemmas.money.MoneyHeld.{money_written}
use Rattle.book_derivation.proofs.money.write_money.Goals as goal

pub returns-in_err-closed : goal.returns-in_err-closed
returns-in_err-closed g c = record {
  derives = record {
    same_reference = search rules;
    says =
        let o = c.args.office.now in
        let old = state g.S.Store c.args.tx.now.conn.now in
        let new = state g.S.Store c.orders_in.new.tx.conn.now in
        let fault = c.in_err-closed.field-0.0 in
        derives_not {X = Vec ClosedPool Global} LacksReached (LacksLined o) old new fault c.from_residual.result _ _
        (derives_examined {X = Vec ClosedPool Global} LacksReached old new (Err fault) (λ db closed. FindsOrders db closed.items) c.in_err-closed.ensures.examined.says) c.from_residual.ensures.1 (λ lacks book lined. lacks o book lined.reached);
  };
}

pub returns-in_err-totals : goal.returns-in_err-totals
returns-in_err-totals g c = record {
  derives = record {
    same_reference = search rules;
    says =
        let o = c.args.office.now in
        let old = state g.S.Store c.args.tx.now.conn.now in
        let mid = state g.S.Store c.orders_in.new.tx.conn.now in
        let new = state g.S.Store c.write_credits.new.tx.conn.now in
        let closed = c.in_ok-closed.closed in
        let r = c.from_residual-in_err-totals.result in
        derives_then LacksReached (CannotPayAll o closed.items) (LacksLined o) old mid new closed r _ (λ (before after : Trees) (y : Unit {0}). ⊥) _
        (derives_examined LacksReached old mid (Ok closed) (λ db closed. FindsOrders db closed.items) c.in_ok-closed.ensures.examined.says)
        (derives_not {X = Totals} (CannotPayAll o closed.items) (CannotPayAll o closed.items) mid new c.in_err-totals.field-0.0 r (WritesCredits o closed.items) _ (rw c.as_slice.ensures.value at c.in_err-totals.ensures.derives.says) c.from_residual-in_err-totals.ensures.1 (λ cannot. cannot))
        (λ y own later found never. absurd never)
        (λ own found cannot. not_lined o closed.items old.now.trees found.1 (subst (CannotPayAll o closed.items) found.0 cannot));
  };
}

pub returns : goal.returns
returns g c = record {
  derives = record {
    same_reference = search rules;
    says =
        let o = c.args.office.now in
        let old = state g.S.Store c.args.tx.now.conn.now in
        let one = state g.S.Store c.orders_in.new.tx.conn.now in
        let two = state g.S.Store c.write_credits.new.tx.conn.now in
        let new = state g.S.Store c.write_balances.new.tx.conn.now in
        let closed = c.in_ok-closed.closed in
        let totals = c.in_ok-totals.totals in
        derives_then LacksReached (CannotPayAll o closed.items) (LacksLined o) old one new closed c.write_balances.result _
        (λ (before after : Trees) (y : Unit {0}). (mid : Trees) × WritesCredits o closed.items before mid totals × WritesBalances totals mid after) _
        (derives_examined LacksReached old one (Ok closed) (λ db closed. FindsOrders db closed.items) c.in_ok-closed.ensures.examined.says)
        (derives_then (CannotPayAll o closed.items) Never (CannotPayAll o closed.items) one two new totals c.write_balances.result (WritesCredits o closed.items) (λ before after (y : Unit {0}). WritesBalances totals before after) _
        (rw c.as_slice.ensures.value at c.in_ok-totals.ensures.derives.says) c.write_balances.ensures.derives.says
        (λ y own later credits balances. (two.now.trees, credits, balances))
        (λ own credits never. absurd never))
        (λ y own later found writes.
        money_written o closed.items totals old.now.trees writes.0 new.now.trees found.1 (subst (λ (db : Trees). WritesCredits o closed.items db writes.0 totals) found.0 writes.1) writes.2)
        (λ own found cannot. not_lined o closed.items old.now.trees found.1 (subst (CannotPayAll o closed.items) found.0 cannot));
  };
}
