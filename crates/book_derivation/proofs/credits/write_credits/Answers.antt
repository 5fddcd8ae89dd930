use Rattle.std.proofs.Common.{◌≡◌, Err, Ok, subst, rules}
use Rattle.sqlite.specs.Held.{state}
use Rattle.sqlite_trees.specs.Tree.{Trees}
use Rattle.book_audit.specs.Paying.{CannotPayAll, CannotPayAny, ListsForAll}
use Rattle.book_derivation.proofs.lemmas.Derivings.{derives_examined, derives_not, derives_then}
use Rattle.book_derivation.specs.Money.{CannotPayListed, WritesCredits, WritesListed}
use Rattle.society_closings.specs.declared.pool_works.PoolWorks.{PoolWorks}
use Rattle.book_derivation.proofs.credits.write_credits.Goals as goal

pub returns-in_err-works : goal.returns-in_err-works
returns-in_err-works g c = record {
  derives = record {
    same_reference = search rules;
    says =
        let o = c.args.office.now in
        let closed = c.args.closed.now in
        let old = state g.S.Store c.args.tx.now.conn.now in
        let new = state g.S.Store c.works_of.new.tx.conn.now in
        let fault = c.in_err-works.field-0.0 in
        derives_not {X = PoolWorks} (CannotPayAny closed) (CannotPayAll o closed) old new fault c.from_residual.result (λ before after (works : PoolWorks). (after ≡ before) × ListsForAll o closed before works) (WritesCredits o closed)
        (derives_examined (CannotPayAny closed) old new (Err fault) (ListsForAll o closed) c.in_err-works.ensures.examined.says) c.from_residual.ensures.1 (λ cannot. cannot o);
  };
}

pub returns : goal.returns
returns g c = record {
  derives = record {
    same_reference = search rules;
    says =
        let o = c.args.office.now in
        let closed = c.args.closed.now in
        let works = c.in_ok-works.works in
        let old = state g.S.Store c.args.tx.now.conn.now in
        let mid = state g.S.Store c.works_of.new.tx.conn.now in
        let new = state g.S.Store c.write_each.new.tx.conn.now in
        derives_then (CannotPayAny closed) (CannotPayListed o closed works) (CannotPayAll o closed) old mid new works c.write_each.result (λ before after (works : PoolWorks). (after ≡ before) × ListsForAll o closed before works) (WritesListed o closed works) (WritesCredits o closed)
        (derives_examined (CannotPayAny closed) old mid (Ok works) (ListsForAll o closed) c.in_ok-works.ensures.examined.says) c.write_each.ensures.derives.says
        (λ totals own later listed writes. subst (λ (db : Trees). WritesListed o closed works db new.now.trees totals) listed.0 writes listed.1) (λ own listed lacks. subst (CannotPayListed o closed works) listed.0 lacks listed.1);
  };
}
