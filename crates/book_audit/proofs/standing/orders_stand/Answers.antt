use Rattle.std.proofs.Common.{◌≡◌, ◌∙◌, Bool, Err, List, Ok, false, refl, subst, sym, true, rules}
use Rattle.std.proofs.lemmas.Bool.{false≢true}
use Rattle.std.proofs.lemmas.List.{take_all}
use Rattle.std.specs.List.{AllByRecursion}
use Rattle.sqlite.specs.Held.{state}
use Rattle.society_core.specs.Orders.{IsOrder}
use Rattle.society_book.proofs.lemmas.together.JudgedLemmas.{examines_as, examines_not, examines_nothing, examines_then}
use Rattle.book_audit.specs.Standing.{CanStand, HoldsNoLines, KnowsReach, OfLines, OrdersFall, can_stand}
use Rattle.book_audit.specs.declared.pool_orders.ClosedPool.{ClosedPool}
use Rattle.book_audit.proofs.lemmas.orders.Steps.{each_here, each_more}
use Rattle.book_audit.proofs.standing.orders_stand.Goals as goal

pub loop-one-init : goal.loop-one-init
loop-one-init g c = record {
  same_reference = refl;
  examined = examines_nothing HoldsNoLines (state g.S.Store c.args.tx.now.conn.now) tt _ (c.new-reached.ensures _, λ o b holds. tt);
  kept = tt;
}

pub returns-in_err-can_stand-clause-examined : goal.returns-in_err-can_stand-clause-examined
returns-in_err-can_stand-clause-examined g c = record {
  same_reference = search rules;
  says =
      let old = state g.S.Store c.args.tx.now.conn.now in
      let mid = state g.S.Store c.loop-one.tx.conn.now in
      let new = state g.S.Store c.can_stand.new.tx.conn.now in
      examines_not HoldsNoLines (OrdersFall c.args.closed.now) old new c.in_err-can_stand.field-0.0 c.from_residual.result _ _
      (examines_then HoldsNoLines HoldsNoLines HoldsNoLines old mid new tt (Err c.in_err-can_stand.field-0.0) _ _ (λ db (told : Bool). Unit {0}) c.loop-one.invariant.examined c.in_err-can_stand.ensures.examined.says (λ y before here. tt) (λ before wrong. wrong))
      c.from_residual.ensures.1 (λ wrong o b holds stand. wrong o b holds);
}

pub returns-then-not-branch-clause-examined : goal.returns-then-not-branch-clause-examined
returns-then-not-branch-clause-examined g c = record {
  same_reference = search rules;
  says =
      let old = state g.S.Store c.args.tx.now.conn.now in
      let mid = state g.S.Store c.loop-one.tx.conn.now in
      let new = state g.S.Store c.can_stand.new.tx.conn.now in
      let closed = c.args.closed.now in
      let one = c.one-item.result in
      let db = old.now.trees in
      examines_then HoldsNoLines (λ db. KnowsReach db c.loop-one.reached → OfLines (λ book. can_stand book db one.order ≡ false) db) (OrdersFall closed) old mid new tt (Err _) _ (λ db (done : Unit {0}). ⊥) _
      c.loop-one.invariant.examined
      (examines_as HoldsNoLines (λ db. KnowsReach db c.loop-one.reached → OfLines (λ book. can_stand book db one.order ≡ false) db) mid new c.in_ok-can_stand.field-0 (Err _) _ (λ db (done : Unit {0}). ⊥) c.in_ok-can_stand.ensures.examined.says (λ told. tt)
      (λ told knows o b holds. sym ((told knows).1 o b holds) ∙ c.if-not-branch.true))
      (λ y before here. absurd here)
      (λ before falls o b holds stand. false≢true (sym (falls before.0 o b holds) ∙ each_here (λ (x : ClosedPool). can_stand b db x.order ≡ true) closed c.loop-one.one-index one c.loop-one-test.true c.one-item.is stand));
}

pub loop-one-preserved : goal.loop-one-preserved
loop-one-preserved g c =
    let old = state g.S.Store c.args.tx.now.conn.now in
    let mid = state g.S.Store c.loop-one.tx.conn.now in
    let new = state g.S.Store c.can_stand.new.tx.conn.now in
    let closed = c.args.closed.now in
    let one = c.one-item.result in
    record {
      same_reference = c.can_stand.ensures.examined.same_reference ∙ c.loop-one.invariant.same_reference;
      examined = examines_then HoldsNoLines HoldsNoLines HoldsNoLines old mid new tt (Ok tt) _ (λ db (done : Unit {0}). KnowsReach db c.loop-one.reached → KnowsReach db c.can_stand.new.reached × OfLines (λ book. can_stand book db one.order ≡ true) db) _ c.loop-one.invariant.examined
          (examines_as HoldsNoLines HoldsNoLines mid new c.in_ok-can_stand.field-0 (Ok tt) _ _ c.in_ok-can_stand.ensures.examined.says (λ told knows. let now = told knows in (now.0, λ o b holds. sym (now.1 o b holds) ∙ c.if-not-branch.false)) (λ told. tt))
          (λ y before here.
          let now = here before.0 in
          (now.0, λ o b holds. each_more (λ (x : ClosedPool). can_stand b old.now.trees x.order ≡ true) closed c.loop-one.one-index one c.loop-one-test.true c.one-item.is (before.1 o b holds) (now.1 o b holds)))
          (λ before wrong. wrong);
      kept = each_more (λ (x : ClosedPool). IsOrder x.order) closed c.loop-one.one-index one c.loop-one-test.true c.one-item.is c.loop-one.invariant.kept c.in_ok-can_stand.ensures.kept;
    }

pub returns-clause-examined : goal.returns-clause-examined
returns-clause-examined g c = record {
  same_reference = search rules;
  says =
      let old = state g.S.Store c.args.tx.now.conn.now in
      examines_as HoldsNoLines (OrdersFall c.args.closed.now) old (state g.S.Store c.loop-one.tx.conn.now) tt (Ok tt) _ _ c.loop-one.invariant.examined
      (λ before o b holds. subst (λ (l : List ClosedPool). CanStand l b old.now.trees) (take_all c.loop-one.one-index c.args.closed.now c.loop-one-test.false) (before.1 o b holds))
      (λ before. tt);
}

pub returns-clause-kept : goal.returns-clause-kept
returns-clause-kept g c = subst (AllByRecursion (λ (x : ClosedPool). IsOrder x.order)) (take_all c.loop-one.one-index c.args.closed.now c.loop-one-test.false) c.loop-one.invariant.kept
