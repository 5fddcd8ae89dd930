use Rattle.std.proofs.Common.{◌≡◌, Err, List, Ok, Vec, ap, refl, subst, sym, rules}
use Rattle.std.specs.declared.alloc.Global.{Global}
use Rattle.sqlite.specs.Held.{state}
use Rattle.sqlite_trees.specs.Tree.{Trees}
use Rattle.pool_split.specs.Credits.{credits_together}
use Rattle.pool_split.specs.declared.claim.Credit.{Credit}
use Rattle.society_closings.specs.Blamed.{CannotPayAmong}
use Rattle.society_closings.specs.Closings.{PaysAmong}
use Rattle.society_book.specs.Steps.{Never}
use Rattle.book_derivation.specs.Money.{AddsCredits, WritesPool}
use Rattle.book_derivation.proofs.lemmas.Derivings.{derives_as, derives_examined, derives_not, derives_then}
use Rattle.book_derivation.proofs.lemmas.money.CreditSteps.{pool_written}
use Rattle.book_derivation.proofs.credits.write_pool.Goals as goal

pub returns-in_err-portions : goal.returns-in_err-portions
returns-in_err-portions g c = record {
  derives = record {
    same_reference = search rules;
    says =
        let o = c.args.office.now in
        let order = c.args.order.now in
        let works = c.args.works.now in
        let pool = c.args.pool in
        let old = state g.S.Store c.args.tx.now.conn.now in
        let new = state g.S.Store c.paid_by.new.tx.conn.now in
        let fault = c.in_err-portions.field-0.0 in
        derives_not (CannotPayAmong o order works) (CannotPayAmong o order works) old new fault c.from_residual.result (λ before after (paid : Vec (List Credit) Global). (after ≡ before) × PaysAmong o order works before (credits_together paid.items)) (λ before after (paid : Vec (List Credit) Global). WritesPool o pool order works before after (credits_together paid.items))
        (derives_examined (CannotPayAmong o order works) old new (Err fault) (λ db paid. PaysAmong o order works db (credits_together paid.items)) c.in_err-portions.ensures.examined.says) c.from_residual.ensures.1 (λ cannot. cannot);
  };
}

pub returns-in_err-write_lines : goal.returns-in_err-write_lines
returns-in_err-write_lines g c = record {
  derives = record {
    same_reference = search rules;
    says =
        let o = c.args.office.now in
        let order = c.args.order.now in
        let works = c.args.works.now in
        let pool = c.args.pool in
        let old = state g.S.Store c.args.tx.now.conn.now in
        let mid = state g.S.Store c.paid_by.new.tx.conn.now in
        let new = state g.S.Store c.write_lines.new.tx.conn.now in
        let paid = c.in_ok-portions.portions in
        let r = c.from_residual-in_err-write_lines.result in
        let Nothing : Trees → Trees → Vec (List Credit) Global → Type 0 = λ before after list. ⊥ in
        derives_then (CannotPayAmong o order works) Never (CannotPayAmong o order works) old mid new paid r (λ before after (list : Vec (List Credit) Global). (after ≡ before) × PaysAmong o order works before (credits_together list.items)) Nothing (λ before after list. WritesPool o pool order works before after (credits_together list.items))
        (derives_examined (CannotPayAmong o order works) old mid (Ok paid) (λ db list. PaysAmong o order works db (credits_together list.items)) c.in_ok-portions.ensures.examined.says)
        (derives_not Never Never mid new c.in_err-write_lines.field-0.0 r (λ before after (done : Unit {0}). AddsCredits c.value.result (credits_together c.as_slice.result.now) before after) Nothing c.in_err-write_lines.ensures.derives.says c.from_residual-in_err-write_lines.ensures.1 (λ never. never))
        (λ list one two pays never. absurd never) (λ own pays never. absurd never);
  };
}

pub returns : goal.returns
returns g c = record {
  derives = record {
    same_reference = search rules;
    says =
        let o = c.args.office.now in
        let order = c.args.order.now in
        let works = c.args.works.now in
        let pool = c.args.pool in
        let old = state g.S.Store c.args.tx.now.conn.now in
        let mid = state g.S.Store c.paid_by.new.tx.conn.now in
        let new = state g.S.Store c.write_lines.new.tx.conn.now in
        let paid = c.in_ok-portions.portions in
        let number = c.value.result in
        let credits = credits_together c.as_slice.result.now in
        let Adds : Trees → Trees → Vec (List Credit) Global → Type 0 = λ before after list. (list ≡ paid) × AddsCredits number credits before after in
        derives_then (CannotPayAmong o order works) Never (CannotPayAmong o order works) old mid new paid (Ok paid) (λ before after (list : Vec (List Credit) Global). (after ≡ before) × PaysAmong o order works before (credits_together list.items)) Adds (λ before after list. WritesPool o pool order works before after (credits_together list.items))
        (derives_examined (CannotPayAmong o order works) old mid (Ok paid) (λ db list. PaysAmong o order works db (credits_together list.items)) c.in_ok-portions.ensures.examined.says)
        (derives_as Never Never mid new tt (Ok paid) (λ before after (done : Unit {0}). AddsCredits number credits before after) Adds c.in_ok-write_lines.ensures.derives.says (λ adds. (refl, adds)) (λ adds. tt))
        (λ list one two pays adds.
        subst (λ (l : Vec (List Credit) Global). WritesPool o pool order works old.now.trees new.now.trees (credits_together l.items)) (sym adds.0)
        (pool_written o pool number order works old.now.trees mid.now.trees new.now.trees credits (credits_together paid.items) c.value.ensures.value (ap credits_together c.as_slice.ensures.value) pays.0 pays.1 adds.1))
        (λ own pays never. absurd never);
  };
}
