use Rattle.std.proofs.Common.{rules}
use Rattle.sqlite.specs.Held.{state}
use Rattle.sqlite_trees.specs.Tree.{Trees}
use Rattle.society_book.proofs.lemmas.together.JudgedLemmas.{examines_not, examines_then}
use Rattle.book_audit.proofs.lemmas.OwnPools.{all_payable}
use Rattle.book_audit.specs.Paying.{CannotPayAny, FindsPaid, LackPools, ListsForAll}
use Rattle.book_audit.specs.declared.totals.Totals.{Totals}
use Rattle.society_closings.specs.declared.pool_works.PoolWorks.{PoolWorks}
use Rattle.book_audit.proofs.paying.totals_of.Goals as goal

pub returns-in_err-works : goal.returns-in_err-works
returns-in_err-works g c = record {
  examined = record {
    same_reference = search rules;
    says =
        let o = c.args.office.now in
        let closed = c.args.closed.now in
        let old = state g.S.Store c.args.tx.now.conn.now in
        examines_not {X = PoolWorks} {Y = Totals} (CannotPayAny closed) (LackPools o closed) old (state g.S.Store c.works_of.new.tx.conn.now) c.in_err-works.field-0.0 c.from_residual.result (ListsForAll o closed) (FindsPaid o closed closed)
        c.in_err-works.ensures.examined.says c.from_residual.ensures.1 (λ cannot book holds there. all_payable o book old.now.trees holds closed cannot there);
  };
}

pub returns : goal.returns
returns g c = record {
  examined = record {
    same_reference = search rules;
    says =
        let o = c.args.office.now in
        let closed = c.args.closed.now in
        let works = c.in_ok-works.works in
        let old = state g.S.Store c.args.tx.now.conn.now in
        let mid = state g.S.Store c.works_of.new.tx.conn.now in
        let new = state g.S.Store c.totals_among.new.tx.conn.now in
        let Lack : Trees → Type 0 = λ db. ListsForAll o closed db works → LackPools o closed db in
        examines_then (CannotPayAny closed) Lack (LackPools o closed) old mid new works c.totals_among.result _ (λ db (totals : Totals). ListsForAll o closed db works → FindsPaid o closed closed db totals) _ c.in_ok-works.ensures.examined.says c.totals_among.ensures.examined.says
        (λ totals listed finds. finds listed) (λ listed lacks. lacks listed);
  };
}
