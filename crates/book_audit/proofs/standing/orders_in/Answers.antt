use Rattle.std.proofs.Common.{◌≡◌, Ok, Vec, refl, subst, sym, rules}
use Rattle.std.specs.declared.alloc.Global.{Global}
use Rattle.std.specs.List.{AllByRecursion}
use Rattle.sqlite.specs.Held.{state}
use Rattle.society_core.specs.Orders.{IsOrder}
use Rattle.society_book.proofs.lemmas.together.ErrLemmas.{blames_on, no_answer}
use Rattle.society_book.proofs.lemmas.together.JudgedLemmas.{examines_as, examines_not, examines_then}
use Rattle.society_book.specs.Steps.{Never}
use Rattle.book_audit.specs.OwnRows.{LacksReached}
use Rattle.book_audit.specs.Pools.{ListPools}
use Rattle.book_audit.specs.Standing.{FindsOrders, OrdersFall, OrdersStand}
use Rattle.book_audit.specs.declared.pool_orders.ClosedPool.{ClosedPool}
use Rattle.book_audit.proofs.lemmas.orders.OwnOrders.{all_stand, are_pools, lines_held}
use Rattle.book_audit.proofs.standing.orders_in.Goals as goal

pub returns-in_err-closed : goal.returns-in_err-closed
returns-in_err-closed g c = record {
  examined = record {
    same_reference = search rules;
    says =
        let old = state g.S.Store c.args.tx.now.conn.now in
        let db = old.now.trees in
        examines_as Never LacksReached old (state g.S.Store c.pool_rows.new.tx.conn.now) c.in_ok-rows.rows c.from_residual-in_err-closed.result ListPools _ c.in_ok-rows.ensures.examined.says
        (λ listed. no_answer c.from_residual-in_err-closed.result _ _ c.from_residual-in_err-closed.ensures.1)
        (λ listed. blames_on c.from_residual-in_err-closed.result c.in_err-closed.field-0.0 _ _ c.from_residual-in_err-closed.ensures.1 c.in_err-closed.ensures.judged
        (λ wrong o b holds. wrong b holds.own.sound (are_pools o b db holds c.in_ok-rows.rows listed)));
  };
}

pub returns-in_err-orders_stand : goal.returns-in_err-orders_stand
returns-in_err-orders_stand g c = record {
  examined = record {
    same_reference = search rules;
    says =
        let old = state g.S.Store c.args.tx.now.conn.now in
        let mid = state g.S.Store c.pool_rows.new.tx.conn.now in
        let new = state g.S.Store c.orders_stand.new.tx.conn.now in
        let db = old.now.trees in
        let fault = c.in_err-orders_stand.field-0.0 in
        let r = c.from_residual-in_err-orders_stand.result in
        examines_then Never (OrdersFall c.in_ok-closed.closed.items) LacksReached old mid new c.in_ok-rows.rows r ListPools (λ db (it : Vec ClosedPool Global). FindsOrders db it.items) _ c.in_ok-rows.ensures.examined.says
        (examines_not (OrdersFall c.in_ok-closed.closed.items) (OrdersFall c.in_ok-closed.closed.items) mid new fault r (λ db (done : Unit {0}). OrdersStand c.in_ok-closed.closed.items db) _ (rw c.as_slice.ensures.value at c.in_err-orders_stand.ensures.examined.says) c.from_residual-in_err-orders_stand.ensures.1 (λ wrong. wrong))
        (λ closed listed found. found)
        (λ listed falls o b holds. falls o b (lines_held o b db holds) (all_stand o b db holds c.in_ok-rows.rows listed c.in_ok-closed.closed.items c.in_ok-closed.ensures.orders.each));
  };
}

pub returns : goal.returns
returns g c = record {
  examined = record {
    same_reference = search rules;
    says =
        let old = state g.S.Store c.args.tx.now.conn.now in
        let mid = state g.S.Store c.pool_rows.new.tx.conn.now in
        let new = state g.S.Store c.orders_stand.new.tx.conn.now in
        let db = old.now.trees in
        let closed : Vec ClosedPool Global = c.in_ok-closed.closed in
        examines_then Never (OrdersFall closed.items) LacksReached old mid new c.in_ok-rows.rows (Ok closed) ListPools (λ db (it : Vec ClosedPool Global). (it ≡ closed) × OrdersStand closed.items db) _ c.in_ok-rows.ensures.examined.says
        (examines_as (OrdersFall closed.items) (OrdersFall closed.items) mid new tt (Ok closed) _ _ (rw c.as_slice.ensures.value at c.in_ok-orders_stand.ensures.examined.says) (λ stand. (refl, stand)) (λ stand. tt))
        (λ it listed found. subst (λ (v : Vec ClosedPool Global). FindsOrders db v.items) (sym found.0) (record { rows = c.in_ok-rows.rows; listed = listed; are = c.in_ok-closed.ensures.orders; stand = found.1; kept = subst (AllByRecursion (λ (x : ClosedPool). IsOrder x.order)) c.as_slice.ensures.value c.in_ok-orders_stand.ensures.kept }))
        (λ listed falls o b holds. falls o b (lines_held o b db holds) (all_stand o b db holds c.in_ok-rows.rows listed closed.items c.in_ok-closed.ensures.orders.each));
  };
}
