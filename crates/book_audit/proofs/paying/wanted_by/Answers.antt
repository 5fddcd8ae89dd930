use Rattle.std.proofs.Common.{◌∙◌, List, Ok, subst, take, rules}
use Rattle.std.proofs.lemmas.List.{take_all}
use Rattle.sqlite.specs.Held.{state}
use Rattle.sqlite_trees.specs.Tree.{Trees}
use Rattle.sqlite_trees.proofs.ListLemmas.{all_weaker}
use Rattle.society_book.proofs.lemmas.together.JudgedLemmas.{examines_as, examines_not, examines_then}
use Rattle.book_audit.proofs.lemmas.orders.Steps.{each_here, each_more}
use Rattle.book_audit.specs.Paying.{CannotPayAny, WantsAll, WantsOrder}
use Rattle.book_audit.specs.declared.pool_orders.ClosedPool.{ClosedPool}
use Rattle.society_closings.specs.Blamed.{LackReturns}
use Rattle.society_core.specs.Candidates.{CanBePaid}
use Rattle.book_audit.proofs.paying.wanted_by.Goals as goal

pub loop-one-preserved : goal.loop-one-preserved
loop-one-preserved g c =
    let old = state g.S.Store c.args.tx.now.conn.now in
    let mid = state g.S.Store c.loop-one.tx.conn.now in
    let new = state g.S.Store c.add_order.new.tx.conn.now in
    let db = old.now.trees in
    let closed = c.args.closed.now in
    let i = c.loop-one.one-index in
    let one = c.one-item.result in
    let before = c.loop-one.wanted in
    let after = c.add_order.new.wanted in
    record {
      same_reference = c.add_order.ensures.examined.same_reference ∙ c.loop-one.invariant.same_reference;
      examined = examines_then (CannotPayAny closed) (LackReturns one.order.returns) (CannotPayAny closed) old mid new tt (Ok tt) _ _ _ c.loop-one.invariant.examined c.in_ok-add_order.ensures.examined.says
          (λ y wants more. each_more (λ (x : ClosedPool). WantsOrder x.order db after) closed i one c.loop-one-test.true c.one-item.is
          (all_weaker (λ (x : ClosedPool). WantsOrder x.order db before) (λ (x : ClosedPool). WantsOrder x.order db after) (λ x wanted o b holds s isrc is. c.in_ok-add_order.ensures.more s isrc (wanted o b holds s isrc is)) (take i closed) wants) more)
          (λ wants lacks o b holds can. lacks o b holds (each_here (λ (x : ClosedPool). CanBePaid b x.order) closed i one c.loop-one-test.true c.one-item.is can).returns);
    }

pub returns : goal.returns
returns g c = record {
  examined = record {
    same_reference = search rules;
    says =
        let closed = c.args.closed.now in
        let old = state g.S.Store c.args.tx.now.conn.now in
        let wanted = c.loop-one.wanted in
        examines_as (CannotPayAny closed) (CannotPayAny closed) old (state g.S.Store c.loop-one.tx.conn.now) tt (Ok wanted) _ _ c.loop-one.invariant.examined
        (λ wants. subst (λ (l : List ClosedPool). WantsAll l old.now.trees wanted) (take_all c.loop-one.one-index closed c.loop-one-test.false) wants) (λ wants. tt);
  };
}

pub returns-in_err-add_order : goal.returns-in_err-add_order
returns-in_err-add_order g c = record {
  examined = record {
    same_reference = search rules;
    says =
        let old = state g.S.Store c.args.tx.now.conn.now in
        let mid = state g.S.Store c.loop-one.tx.conn.now in
        let new = state g.S.Store c.add_order.new.tx.conn.now in
        let closed = c.args.closed.now in
        let i = c.loop-one.one-index in
        let one = c.one-item.result in
        let r = c.from_residual.result in
        let Lacks : Trees → Type 0 = LackReturns one.order.returns in
        examines_then (CannotPayAny closed) Lacks (CannotPayAny closed) old mid new tt r _ (WantsAll closed) (WantsAll closed) c.loop-one.invariant.examined
        (examines_not {X = Unit {0}} Lacks Lacks mid new c.in_err-add_order.field-0.0 r _ (WantsAll closed) c.in_err-add_order.ensures.examined.says c.from_residual.ensures.1 (λ lacks. lacks))
        (λ wanted before wants. wants)
        (λ before lacks o b holds can. lacks o b holds (each_here (λ (x : ClosedPool). CanBePaid b x.order) closed i one c.loop-one-test.true c.one-item.is can).returns);
  };
}
