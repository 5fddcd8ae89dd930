use Rattle.std.proofs.Common.{◌≡◌, ◌∙◌, Ok, rules}
use Rattle.sqlite.specs.Held.{state}
use Rattle.society_book.proofs.lemmas.together.JudgedLemmas.{examines_as, examines_not, examines_then}
use Rattle.book_audit.proofs.lemmas.Paid.{paid_more}
use Rattle.book_audit.proofs.lemmas.orders.Steps.{each_here}
use Rattle.book_audit.specs.Credits.{FindsCredits, HasNoPool}
use Rattle.book_audit.specs.Paying.{FindsPaid, LackPools, ListsForAll}
use Rattle.book_audit.specs.declared.pool_orders.ClosedPool.{ClosedPool}
use Rattle.book_audit.specs.declared.totals.Totals.{Totals}
use Rattle.pool_split.specs.Credits.{credits_together}
use Rattle.society_closings.specs.Closings.{ListsOrder}
use Rattle.society_core.specs.Book.{order_at}
use Rattle.sqlite_trees.specs.Tree.{Trees}
use Rattle.std.proofs.Common.{Some}
use Rattle.book_audit.proofs.paying.totals_among.Goals as goal

pub loop-one-preserved : goal.loop-one-preserved
loop-one-preserved g c =
    let old = state g.S.Store c.args.tx.now.conn.now in
    let mid = state g.S.Store c.loop-one.tx.conn.now in
    let new = state g.S.Store c.credits_agree.new.tx.conn.now in
    let db = old.now.trees in
    let o = c.args.office.now in
    let closed = c.args.closed.now in
    let i = c.loop-one.one-index in
    let one = c.one-item.result in
    let portions = c.in_ok-portions.portions in
    let works = c.args.works.now in
    let Wrong : Trees → Type 0 = λ db. ListsForAll o closed db works → LackPools o closed db in
    let here = each_here (λ (x : ClosedPool). ListsOrder o x.order db works) closed i one c.loop-one-test.true c.one-item.is in
    record {
      same_reference = c.credits_agree.ensures.examined.same_reference ∙ c.loop-one.invariant.same_reference;
      examined = examines_then Wrong (HasNoPool o one.pool one.order works) Wrong old mid new tt (Ok tt) _ (λ db (done : Unit {0}). FindsCredits o one.pool one.order works db portions) _ c.loop-one.invariant.examined
          (examines_as (HasNoPool o one.pool one.order works) (HasNoPool o one.pool one.order works) mid new portions (Ok tt) _ _ c.in_ok-portions.ensures.examined.says (λ finds. finds) (λ finds. tt))
          (λ y before finds listed. paid_more o closed i one db c.loop-one.totals c.add_portions.new.self (credits_together portions.items) c.loop-one-test.true c.one-item.is (before listed) finds.0 (finds.1 (here listed)) (rw c.as_slice.ensures.value at c.in_ok-add_portions.ensures.added))
          (λ before lacks listed book holds there. lacks (here listed) book holds (each_here (λ (x : ClosedPool). order_at book x.pool ≡ Some x.order) closed i one c.loop-one-test.true c.one-item.is there));
    }

pub returns-in_err-portions : goal.returns-in_err-portions
returns-in_err-portions g c = record {
  examined = record {
    same_reference = search rules;
    says =
        let old = state g.S.Store c.args.tx.now.conn.now in
        let mid = state g.S.Store c.loop-one.tx.conn.now in
        let new = state g.S.Store c.credits_agree.new.tx.conn.now in
        let o = c.args.office.now in
        let closed = c.args.closed.now in
        let works = c.args.works.now in
        let i = c.loop-one.one-index in
        let one = c.one-item.result in
        let Wrong : Trees → Type 0 = λ db. ListsForAll o closed db works → LackPools o closed db in
        let Finds : Trees → Totals → Type 0 = λ db totals. ListsForAll o closed db works → FindsPaid o closed closed db totals in
        let Lacks : Trees → Type 0 = HasNoPool o one.pool one.order works in
        examines_then Wrong Lacks Wrong old mid new tt c.from_residual.result _ Finds Finds c.loop-one.invariant.examined
        (examines_not Lacks Lacks mid new c.in_err-portions.field-0.0 c.from_residual.result _ Finds c.in_err-portions.ensures.examined.says c.from_residual.ensures.1 (λ lacks. lacks))
        (λ totals before finds. finds)
        (λ before lacks listed book holds there.
        lacks (each_here (λ (x : ClosedPool). ListsOrder o x.order old.now.trees works) closed i one c.loop-one-test.true c.one-item.is listed) book holds
        (each_here (λ (x : ClosedPool). order_at book x.pool ≡ Some x.order) closed i one c.loop-one-test.true c.one-item.is there));
  };
}
