use Rattle.std.proofs.Common.{rules}
use Rattle.sqlite.specs.Held.{state}
use Rattle.book_audit.specs.Audited.{IsNumbered}
use Rattle.book_audit.specs.Examining.{HoldsNot}
use Rattle.society_book.proofs.lemmas.together.JudgedLemmas.{examines_not, examines_then}
use Rattle.society_opening.proofs.examining.examine_whole.Goals as goal

pub returns : goal.returns
returns g c = record {
  examined = record {
    same_reference = search rules;
    says =
        let old = state g.S.Store c.args.tx.now.conn.now in
        let mid = state g.S.Store c.fronts_and_balances_numbered.new.tx.conn.now in
        let new = state g.S.Store c.audit.new.tx.conn.now in
        let Wrong = HoldsNot c.args.office.now in
        examines_then (λ db. IsNumbered db → ⊥) Wrong Wrong old mid new tt c.audit.result _ _ _
        c.in_ok-fronts_and_balances_numbered.ensures.examined.says c.audit.ensures.examined.says (λ y numbered found registered. found registered numbered) (λ numbered wrong. wrong);
  };
}

pub returns-in_err-fronts_and_balances_numbered : goal.returns-in_err-fronts_and_balances_numbered
returns-in_err-fronts_and_balances_numbered g c = record {
  examined = record {
    same_reference = search rules;
    says =
        examines_not (λ db. IsNumbered db → ⊥) (HoldsNot c.args.office.now) (state g.S.Store c.args.tx.now.conn.now) (state g.S.Store c.fronts_and_balances_numbered.new.tx.conn.now)
        c.in_err-fronts_and_balances_numbered.field-0.0 c.from_residual.result _ _ c.in_err-fronts_and_balances_numbered.ensures.examined.says c.from_residual.ensures.1 (λ wrong holds. wrong holds.numbered);
  };
}
