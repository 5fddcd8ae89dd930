use Rattle.std.proofs.Common.{◌≡◌, ◌∙◌, Err, Ok, false, subst, sym, true, rules}
use Rattle.std.specs.List.{AllByRecursion}
use Rattle.std.proofs.lemmas.Bool.{false≢true}
use Rattle.std.proofs.lemmas.List.{take_all}
use Rattle.sqlite.specs.Held.{state}
use Rattle.sqlite_trees.specs.Tree.{Trees}
use Rattle.society_book.proofs.lemmas.together.JudgedLemmas.{examines_as, examines_not, examines_then}
use Rattle.society_book.specs.Steps.{Never}
use Rattle.book_audit.specs.Judging.{AreReported, is_reported_at}
use Rattle.book_audit.proofs.lemmas.entries.KeyedRows.{here_of, more_of}
use Rattle.book_audit.proofs.lemmas.entries.ReportedRows.{keys_of_reported, reported_by_keys}
use Rattle.book_audit.proofs.reported.check_returns.Goals as goal

-- returns do not all stand in a book
abbrev NotReported : Trees → Type 0
NotReported db = AreReported db → ⊥

pub returns-in_err-check_at : goal.returns-in_err-check_at
returns-in_err-check_at g c = record {
  examined = record {
    same_reference = search rules;
    says =
        let old = state g.S.Store c.args.tx.now.conn.now in
        let mid = state g.S.Store c.loop-row.tx.conn.now in
        let new = state g.S.Store c.check_at.new.tx.conn.now in
        let keys = c.as_slice-row-items.result.now in
        let row = c.row-item.result in
        examines_not NotReported NotReported old new c.in_err-check_at.field-0.0 c.from_residual-in_err-check_at.result _ _
        (examines_then Never (λ db. is_reported_at db row ≡ false) NotReported old mid new tt (Err c.in_err-check_at.field-0.0) _ _ (λ db (done : Unit {0}). Unit {0}) c.loop-row.invariant.examined c.in_err-check_at.ensures.examined.says (λ y found here. tt)
        (λ found wrong reported. false≢true (sym wrong ∙ here_of (λ k. is_reported_at old.now.trees k ≡ true) keys c.loop-row.row-index row c.loop-row-test.true c.row-item.is (keys_of_reported old.now.trees keys found.0 reported))))
        c.from_residual-in_err-check_at.ensures.1 (λ h. h);
  };
}

pub loop-row-preserved : goal.loop-row-preserved
loop-row-preserved g c =
    let old = state g.S.Store c.args.tx.now.conn.now in
    let mid = state g.S.Store c.loop-row.tx.conn.now in
    let new = state g.S.Store c.check_at.new.tx.conn.now in
    let keys = c.as_slice-row-items.result.now in
    let i = c.loop-row.row-index in
    let row = c.row-item.result in
    record {
      same_reference = c.check_at.ensures.examined.same_reference ∙ c.loop-row.invariant.same_reference;
      examined = examines_then Never Never Never old mid new tt (Ok tt) _ (λ db _. is_reported_at db row ≡ true) _ c.loop-row.invariant.examined
          (examines_as (λ db. is_reported_at db row ≡ false) Never mid new tt (Ok tt) _ _ c.in_ok-check_at.ensures.examined.says (λ found. found) (λ found. tt))
          (λ y found here. (found.0, more_of (λ k. is_reported_at old.now.trees k ≡ true) keys i row c.loop-row-test.true c.row-item.is found.1 here))
          (λ found never. never);
    }

pub returns : goal.returns
returns g c = record {
  examined = record {
    same_reference = search rules;
    says =
        let old = state g.S.Store c.args.tx.now.conn.now in
        let db = old.now.trees in
        let keys = c.as_slice-row-items.result.now in
        examines_as Never NotReported old (state g.S.Store c.loop-row.tx.conn.now) tt (Ok tt) _ _ c.loop-row.invariant.examined
        (λ found. reported_by_keys db keys found.0 (subst (AllByRecursion (λ k. is_reported_at db k ≡ true)) (take_all c.loop-row.row-index keys c.loop-row-test.false) found.1))
        (λ found. tt);
  };
}
