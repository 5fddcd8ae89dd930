use Rattle.std.proofs.Common.{rules}
use Rattle.sqlite.specs.Held.{state}
use Rattle.society_book.specs.BookRows.{book_of}
use Rattle.book_audit.specs.Examining.{HoldsNot}
use Rattle.society_book.proofs.lemmas.together.JudgedLemmas.{examines_not, examines_then}
use Rattle.book_audit.specs.OwnRows.{LacksReached}
use Rattle.book_audit.proofs.lemmas.OwnPools.{reached_by}
use Rattle.book_audit.specs.Paying.{DeniesPools}
use Rattle.book_audit.proofs.lemmas.Among.{orders_apart, orders_whole}
use Rattle.book_audit.proofs.lemmas.Whole.{completes}
use Rattle.book_audit.proofs.lemmas.orders.OwnOrders.{all_there, are_pools}
use Rattle.book_audit.proofs.paying.money_agrees.Goals as goal

pub returns-in_err-closed : goal.returns-in_err-closed
returns-in_err-closed g c = record {
  examined = record {
    same_reference = search rules;
    says =
        let old = state g.S.Store c.args.tx.now.conn.now in
        let db = old.now.trees in
        let o = c.args.office.now in
        examines_not LacksReached (HoldsNot o) old (state g.S.Store c.orders_in.new.tx.conn.now) c.in_err-closed.field-0.0 c.from_residual.result _ _ c.in_err-closed.ensures.examined.says c.from_residual.ensures.1
        (λ lacks holds. lacks o (book_of db) (reached_by o (book_of db) db holds));
  };
}

pub returns : goal.returns
returns g c = record {
  examined = record {
    same_reference = search rules;
    says =
        let old = state g.S.Store c.args.tx.now.conn.now in
        let mid = state g.S.Store c.orders_in.new.tx.conn.now in
        let new = state g.S.Store c.pools_agree.new.tx.conn.now in
        let db = old.now.trees in
        let o = c.args.office.now in
        let closed = c.in_ok-closed.closed.items in
        examines_then LacksReached (DeniesPools o closed) (HoldsNot o) old mid new c.in_ok-closed.closed c.pools_agree.result _ _ _ c.in_ok-closed.ensures.examined.says (rw c.as_slice.ensures.value at c.pools_agree.ensures.examined.says)
        (λ done orders found. completes o db closed orders found)
        (λ orders denies holds.
        let b = book_of db in
        let pools = are_pools o b db (reached_by o b db holds) orders.rows orders.listed in
        let there = all_there o b db (reached_by o b db holds) orders.rows orders.listed closed orders.are.each in
        denies b holds there (orders_whole orders.rows b closed pools orders.are there) (orders_apart orders.rows closed orders.are));
  };
}
