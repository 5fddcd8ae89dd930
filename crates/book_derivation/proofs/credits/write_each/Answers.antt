use Rattle.std.proofs.Common.{◌∙◌, ◌+◌, [], List, Ok, Vec, refl, subst, take, rules}
use Rattle.std.proofs.lemmas.List.{take_all}
use Rattle.std.specs.declared.alloc.Global.{Global}
use Rattle.sqlite.specs.Held.{state}
use Rattle.sqlite_trees.specs.Tree.{Trees}
use Rattle.pool_split.specs.Credits.{credits_together}
use Rattle.pool_split.specs.declared.claim.Credit.{Credit}
use Rattle.society_closings.specs.Blamed.{CannotPayAmong}
use Rattle.book_audit.specs.Paying.{ListsForAll}
use Rattle.book_audit.specs.declared.pool_orders.ClosedPool.{ClosedPool}
use Rattle.book_audit.specs.declared.totals.Totals.{Totals}
use Rattle.society_book.proofs.lemmas.together.ErrLemmas.{blames_on, no_answer}
use Rattle.book_derivation.specs.Money.{CannotPayListed, WritesListed, WritesPool}
use Rattle.book_derivation.proofs.lemmas.Derivings.{derives_as, derives_not, derives_nothing, derives_then}
use Rattle.book_derivation.proofs.lemmas.money.CreditSteps.{WritesSome, all_written, none_written, not_all, some_more}
use Rattle.book_derivation.proofs.credits.write_each.Goals as goal

pub loop-one-init : goal.loop-one-init
loop-one-init g c =
    let o = c.args.office.now in
    let closed = c.args.closed.now in
    let works = c.args.works.now in
    let old = state g.S.Store c.args.tx.now.conn.now in
    let totals = c.new-totals.result in
    record {
      same_reference = refl;
      derives = derives_nothing (CannotPayListed o closed works) old tt (λ before after (done : Unit {0}). ListsForAll o closed before works → WritesSome o closed [] before after totals) (λ listed. none_written o closed old.now.trees totals c.new-totals.ensures);
    }

pub returns-in_err-portions : goal.returns-in_err-portions
returns-in_err-portions g c = record {
  derives = record {
    same_reference = search rules;
    says =
        let o = c.args.office.now in
        let closed = c.args.closed.now in
        let works = c.args.works.now in
        let i = c.loop-one.one-index in
        let one = c.one-item.result in
        let totals = c.loop-one.totals in
        let old = state g.S.Store c.args.tx.now.conn.now in
        let mid = state g.S.Store c.loop-one.tx.conn.now in
        let new = state g.S.Store c.write_pool.new.tx.conn.now in
        let r = c.from_residual.result in
        let Nothing : Trees → Trees → Totals → Type 0 = λ before after done. ⊥ in
        derives_then (CannotPayListed o closed works) (CannotPayAmong o one.order works) (CannotPayListed o closed works) old mid new tt r (λ before after (done : Unit {0}). ListsForAll o closed before works → WritesSome o closed (take i closed) before after totals) Nothing (WritesListed o closed works) c.loop-one.invariant.derives
        (derives_not {X = Vec (List Credit) Global} (CannotPayAmong o one.order works) (CannotPayAmong o one.order works) mid new c.in_err-portions.field-0.0 r (λ before after credits. WritesPool o one.pool one.order works before after (credits_together credits.items)) Nothing c.in_err-portions.ensures.derives.says c.from_residual.ensures.1 (λ cannot. cannot))
        (λ y own later before never. absurd never)
        (λ own before cannot listed. not_all o closed works i one c.loop-one-test.true c.one-item.is old.now.trees mid.now.trees totals listed (before listed) cannot);
  };
}

pub returns-in_err-add_portions : goal.returns-in_err-add_portions
returns-in_err-add_portions g c = record {
  derives = record {
    same_reference = search rules;
    says =
        let o = c.args.office.now in
        let closed = c.args.closed.now in
        let works = c.args.works.now in
        let i = c.loop-one.one-index in
        let one = c.one-item.result in
        let totals = c.loop-one.totals in
        let old = state g.S.Store c.args.tx.now.conn.now in
        let mid = state g.S.Store c.loop-one.tx.conn.now in
        let new = state g.S.Store c.write_pool.new.tx.conn.now in
        let r = c.from_residual-in_err-add_portions.result in
        let Nothing : Trees → Trees → Totals → Type 0 = λ before after done. ⊥ in
        derives_then (CannotPayListed o closed works) (CannotPayAmong o one.order works) (CannotPayListed o closed works) old mid new tt r (λ before after (done : Unit {0}). ListsForAll o closed before works → WritesSome o closed (take i closed) before after totals) Nothing (WritesListed o closed works) c.loop-one.invariant.derives
        (derives_as (CannotPayAmong o one.order works) (CannotPayAmong o one.order works) mid new c.in_ok-portions.portions r (λ before after (credits : Vec (List Credit) Global). WritesPool o one.pool one.order works before after (credits_together credits.items)) Nothing c.in_ok-portions.ensures.derives.says
        (λ writes. no_answer r _ _ c.from_residual-in_err-add_portions.ensures.1)
        (λ writes. blames_on r c.in_err-add_portions.field-0.0 ⊥ (CannotPayAmong o one.order works mid.now.trees) c.from_residual-in_err-add_portions.ensures.1 c.in_err-add_portions.ensures.judged (λ never. absurd never)))
        (λ y own later before never. absurd never)
        (λ own before cannot listed. not_all o closed works i one c.loop-one-test.true c.one-item.is old.now.trees mid.now.trees totals listed (before listed) cannot);
  };
}

pub loop-one-preserved : goal.loop-one-preserved
loop-one-preserved g c =
    let o = c.args.office.now in
    let closed = c.args.closed.now in
    let works = c.args.works.now in
    let i = c.loop-one.one-index in
    let one = c.one-item.result in
    let totals = c.loop-one.totals in
    let old = state g.S.Store c.args.tx.now.conn.now in
    let mid = state g.S.Store c.loop-one.tx.conn.now in
    let new = state g.S.Store c.write_pool.new.tx.conn.now in
    let portions = c.in_ok-portions.portions in
    let Pays : Trees → Trees → Unit {0} → Type 0 = λ before after done. WritesPool o one.pool one.order works before after (credits_together portions.items) in
    record {
      same_reference = c.write_pool.ensures.derives.same_reference ∙ c.loop-one.invariant.same_reference;
      derives =
          derives_then (CannotPayListed o closed works) (CannotPayAmong o one.order works) (CannotPayListed o closed works) old mid new tt (Ok tt) (λ before after (done : Unit {0}). ListsForAll o closed before works → WritesSome o closed (take i closed) before after totals) Pays
          (λ before after done. ListsForAll o closed before works → WritesSome o closed (take (i + 1) closed) before after c.add_portions.new.self) c.loop-one.invariant.derives
          (derives_as (CannotPayAmong o one.order works) (CannotPayAmong o one.order works) mid new portions (Ok tt) (λ before after (paid : Vec (List Credit) Global). WritesPool o one.pool one.order works before after (credits_together paid.items)) Pays c.in_ok-portions.ensures.derives.says (λ writes. writes) (λ writes. tt))
          (λ y own later before writes listed.
          some_more o closed works i one c.loop-one-test.true c.one-item.is old.now.trees mid.now.trees totals listed (before listed) c.add_portions.new.self new.now.trees (credits_together portions.items) writes (rw c.as_slice.ensures.value at c.in_ok-add_portions.ensures.added))
          (λ own before cannot listed. not_all o closed works i one c.loop-one-test.true c.one-item.is old.now.trees mid.now.trees totals listed (before listed) cannot);
    }

pub returns : goal.returns
returns g c = record {
  derives = record {
    same_reference = search rules;
    says =
        let o = c.args.office.now in
        let closed = c.args.closed.now in
        let works = c.args.works.now in
        let i = c.loop-one.one-index in
        let old = state g.S.Store c.args.tx.now.conn.now in
        let new = state g.S.Store c.loop-one.tx.conn.now in
        let totals = c.loop-one.totals in
        derives_as (CannotPayListed o closed works) (CannotPayListed o closed works) old new tt (Ok totals) (λ before after (done : Unit {0}). ListsForAll o closed before works → WritesSome o closed (take i closed) before after totals) (WritesListed o closed works) c.loop-one.invariant.derives
        (λ some listed. all_written o closed old.now.trees new.now.trees totals (subst (λ (l : List ClosedPool). WritesSome o closed l old.now.trees new.now.trees totals) (take_all i closed c.loop-one-test.false) (some listed)))
        (λ some. tt);
  };
}
