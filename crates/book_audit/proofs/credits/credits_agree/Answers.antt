use Rattle.book_audit.specs.Examining.{IsNot}
use Rattle.society_book.proofs.lemmas.together.JudgedLemmas.{examines_as, examines_not, examines_then}
use Rattle.std.proofs.Common.{◌≡◌, List, Ok, Vec, ap, refl, subst, sym, rules}
use Rattle.std.specs.declared.alloc.Global.{Global}
use Rattle.sqlite.specs.Held.{state}
use Rattle.sqlite_trees.specs.Tree.{Trees}
use Rattle.pool_split.specs.Credits.{credits_together}
use Rattle.pool_split.specs.declared.claim.Credit.{Credit}
use Rattle.society_closings.specs.Blamed.{CannotPayAmong}
use Rattle.society_closings.specs.Closings.{PaysAmong}
use Rattle.book_audit.specs.Credits.{FindsCredits, HasCredits, HasNoPool}
use Rattle.book_audit.specs.CreditSteps.{ListsOnly}
use Rattle.book_audit.proofs.lemmas.credits.Finding.{has_pool, no_pool}
use Rattle.book_audit.proofs.lemmas.credits.Payable.{payable}
use Rattle.book_audit.proofs.credits.credits_agree.Goals as goal

pub returns-in_err-portions : goal.returns-in_err-portions
returns-in_err-portions g c = record {
  examined = record {
    same_reference = search rules;
    says =
        let o = c.args.office.now in
        let pool = c.args.pool in
        let order = c.args.order.now in
        let works = c.args.works.now in
        let old = state g.S.Store c.args.tx.now.conn.now in
        examines_not {X = Vec (List Credit) Global} {Y = Vec (List Credit) Global} (CannotPayAmong o order works) (HasNoPool o pool order works) old (state g.S.Store c.paid_by.new.tx.conn.now) c.in_err-portions.field-0.0 c.from_residual.result (λ db found. PaysAmong o order works db (credits_together found.items)) (FindsCredits o pool order works)
        c.in_err-portions.ensures.examined.says c.from_residual.ensures.1
        (λ cannot listed b holds is. let can = payable o b old.now.trees holds pool order is in cannot listed b can.0 can.2);
  };
}

pub returns-in_err-lines_agree : goal.returns-in_err-lines_agree
returns-in_err-lines_agree g c = record {
  examined = record {
    same_reference = search rules;
    says =
        let o = c.args.office.now in
        let pool = c.args.pool in
        let order = c.args.order.now in
        let works = c.args.works.now in
        let number = c.value.result in
        let credits = credits_together c.as_slice.result.now in
        let paid = c.in_ok-portions.portions in
        let old = state g.S.Store c.args.tx.now.conn.now in
        let mid = state g.S.Store c.paid_by.new.tx.conn.now in
        let new = state g.S.Store c.lines_agree.new.tx.conn.now in
        let result = c.from_residual-in_err-lines_agree.result in
        let Others : Trees → Type 0 = IsNot (ListsOnly number credits) in
        examines_then {X = Vec (List Credit) Global} {Y = Vec (List Credit) Global} (CannotPayAmong o order works) Others (HasNoPool o pool order works) old mid new paid result (λ db found. PaysAmong o order works db (credits_together found.items)) (FindsCredits o pool order works) (FindsCredits o pool order works)
        c.in_ok-portions.ensures.examined.says
        (examines_not {X = Unit {0}} {Y = Vec (List Credit) Global} Others Others mid new c.in_err-lines_agree.field-0.0 result (λ db _. HasCredits number credits db) (FindsCredits o pool order works) c.in_err-lines_agree.ensures.examined.says c.from_residual-in_err-lines_agree.ensures.1 (λ no. no))
        (λ y pays found. found)
        (no_pool o old.now.trees pool order number works credits (credits_together paid.items) c.value.ensures.value (ap credits_together c.as_slice.ensures.value));
  };
}

pub returns : goal.returns
returns g c = record {
  examined = record {
    same_reference = search rules;
    says =
        let o = c.args.office.now in
        let pool = c.args.pool in
        let order = c.args.order.now in
        let works = c.args.works.now in
        let number = c.value.result in
        let credits = credits_together c.as_slice.result.now in
        let paid = c.in_ok-portions.portions in
        let old = state g.S.Store c.args.tx.now.conn.now in
        let mid = state g.S.Store c.paid_by.new.tx.conn.now in
        let new = state g.S.Store c.lines_agree.new.tx.conn.now in
        let Others : Trees → Type 0 = IsNot (ListsOnly number credits) in
        let Shows : Trees → Vec (List Credit) Global → Type 0 = λ db found. (found ≡ paid) × HasCredits number credits db in
        examines_then {X = Vec (List Credit) Global} {Y = Vec (List Credit) Global} (CannotPayAmong o order works) Others (HasNoPool o pool order works) old mid new paid (Ok paid) (λ db found. PaysAmong o order works db (credits_together found.items)) Shows (FindsCredits o pool order works)
        c.in_ok-portions.ensures.examined.says
        (examines_as {X = Unit {0}} {Y = Vec (List Credit) Global} Others Others mid new tt (Ok paid) (λ db _. HasCredits number credits db) Shows c.in_ok-lines_agree.ensures.examined.says (λ has. (refl, has)) (λ has. tt))
        (λ y pays found. subst (λ (list : Vec (List Credit) Global). FindsCredits o pool order works old.now.trees list) (sym found.0) (has_pool o old.now.trees pool order number works credits (credits_together paid.items) c.value.ensures.value (ap credits_together c.as_slice.ensures.value) found.1, pays))
        (no_pool o old.now.trees pool order number works credits (credits_together paid.items) c.value.ensures.value (ap credits_together c.as_slice.ensures.value));
  };
}
