use Rattle.std.proofs.Common.{◌∙◌, Err, Ok, sym, ap, rules}
use Rattle.sqlite.specs.Held.{state}
use Rattle.society_book.proofs.lemmas.together.JudgedLemmas.{examines_as}
use Rattle.book_audit.specs.Entries.{is_right_return}
use Rattle.book_audit.specs.Judging.{is_one_right}
use Rattle.book_audit.proofs.lemmas.entries.KeyForms.{some_if}
use Rattle.book_audit.proofs.lemmas.entries.ReportedRows.{reported_asked}
use Rattle.book_audit.proofs.reported.check_at.Goals as goal

pub returns-then-branch : goal.returns-then-branch
returns-then-branch g c = record {
  examined = record {
    same_reference = search rules;
    says =
        let old = state g.S.Store c.args.tx.now.conn.now in
        let row = c.args.row.now in
        let key = some_if _ _ _ _ c.reported_key.ensures c.in-Some.is in
        examines_as _ _ old (state g.S.Store c.ask.new.tx.conn.now) c.in_ok-rows.rows (Ok tt) _ _ (rw (c.as_bytes.ensures.bytes, c.value.ensures.value) at c.in_ok-rows.ensures.examined.says)
        (λ lists. reported_asked old.now.trees row c.in-Some.key c.in_ok-rows.rows.items key.0 key.1 lists ∙ ap (is_one_right is_right_return) (sym c.as_slice.ensures.value) ∙ sym c.in_ok-is_alone_right.ensures ∙ c.if-branch.true)
        (λ lists. tt);
  };
}

pub returns : goal.returns
returns g c = record {
  examined = record {
    same_reference = search rules;
    says =
        let old = state g.S.Store c.args.tx.now.conn.now in
        let row = c.args.row.now in
        let key = some_if _ _ _ _ c.reported_key.ensures c.in-Some.is in
        examines_as _ _ old (state g.S.Store c.ask.new.tx.conn.now) c.in_ok-rows.rows (Err _) _ _ (rw (c.as_bytes.ensures.bytes, c.value.ensures.value) at c.in_ok-rows.ensures.examined.says)
        (λ lists. tt)
        (λ lists. reported_asked old.now.trees row c.in-Some.key c.in_ok-rows.rows.items key.0 key.1 lists ∙ ap (is_one_right is_right_return) (sym c.as_slice.ensures.value) ∙ sym c.in_ok-is_alone_right.ensures ∙ c.if-branch.false);
  };
}
