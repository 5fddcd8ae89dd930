use Rattle.std.proofs.Common.{rules}
use Rattle.sqlite.specs.Held.{state}
use Rattle.society_rows.specs.Layout as layout
use Rattle.society_rows.specs.Stored.{AreNumbered}
use Rattle.book_audit.specs.Audited.{IsNumbered}
use Rattle.society_book.proofs.lemmas.together.JudgedLemmas.{examines_not, examines_then}
use Rattle.society_opening.proofs.examining.fronts_and_balances_numbered.Goals as goal

pub returns : goal.returns
returns g c = record {
  examined = record {
    same_reference = search rules;
    says =
        let old = state g.S.Store c.args.tx.now.conn.now in
        let mid = state g.S.Store c.check_numbers.new.tx.conn.now in
        let new = state g.S.Store c.check_numbers-2.new.tx.conn.now in
        examines_then (λ db. AreNumbered layout.fronts db → ⊥) (λ db. AreNumbered layout.balances db → ⊥) (λ db. IsNumbered db → ⊥) old mid new tt c.check_numbers-2.result _ _ _
        c.in_ok-check_numbers.ensures.examined.says c.check_numbers-2.ensures.examined.says (λ y one two. (one, two)) (λ one wrong both. wrong both.1);
  };
}

pub returns-in_err-check_numbers : goal.returns-in_err-check_numbers
returns-in_err-check_numbers g c = record {
  examined = record {
    same_reference = search rules;
    says =
        examines_not (λ db. AreNumbered layout.fronts db → ⊥) (λ db. IsNumbered db → ⊥) (state g.S.Store c.args.tx.now.conn.now) (state g.S.Store c.check_numbers.new.tx.conn.now) c.in_err-check_numbers.field-0.0 c.from_residual.result _ _
        c.in_err-check_numbers.ensures.examined.says c.from_residual.ensures.1 (λ wrong both. wrong both.0);
  };
}
