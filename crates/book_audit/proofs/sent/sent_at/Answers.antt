use Rattle.std.proofs.Common.{◌∙◌, Err, Ok, sym, ap, rules}
use Rattle.sqlite.specs.Held.{state}
use Rattle.society_book.proofs.lemmas.together.JudgedLemmas.{examines_as}
use Rattle.book_audit.specs.Entries.{is_right_sent}
use Rattle.book_audit.specs.Judging.{is_one_right}
use Rattle.book_audit.proofs.lemmas.entries.KeyForms.{some_if}
use Rattle.book_audit.proofs.lemmas.entries.SentRows.{sent_asked}
use Rattle.book_audit.proofs.sent.sent_at.Goals as goal

pub returns-then-is_alone_right : goal.returns-then-is_alone_right
returns-then-is_alone_right g c = record {
  examined = record {
    same_reference = search rules;
    says =
        let old = state g.S.Store c.args.tx.now.conn.now in
        let row = c.args.row.now in
        let key = some_if _ _ _ _ c.sent_key.ensures c.in-Some.is in
        examines_as _ _ old (state g.S.Store c.ask.new.tx.conn.now) c.in_ok-rows.rows (Ok c.in-Some.key) _ _ (rw (c.as_bytes.ensures.bytes, c.value.ensures.value) at c.in_ok-rows.ensures.examined.says)
        (λ lists. (key.1, sent_asked old.now.trees row c.in-Some.key c.in_ok-rows.rows.items key.0 key.1 lists ∙ ap (is_one_right is_right_sent) (sym c.as_slice.ensures.value) ∙ sym c.is_alone_right.ensures ∙ c.if-is_alone_right.true))
        (λ lists. tt);
  };
}

pub returns : goal.returns
returns g c = record {
  examined = record {
    same_reference = search rules;
    says =
        let old = state g.S.Store c.args.tx.now.conn.now in
        let row = c.args.row.now in
        let key = some_if _ _ _ _ c.sent_key.ensures c.in-Some.is in
        examines_as _ _ old (state g.S.Store c.ask.new.tx.conn.now) c.in_ok-rows.rows (Err _) _ _ (rw (c.as_bytes.ensures.bytes, c.value.ensures.value) at c.in_ok-rows.ensures.examined.says)
        (λ lists. tt)
        (λ lists. sent_asked old.now.trees row c.in-Some.key c.in_ok-rows.rows.items key.0 key.1 lists ∙ ap (is_one_right is_right_sent) (sym c.as_slice.ensures.value) ∙ sym c.is_alone_right.ensures ∙ c.if-is_alone_right.false);
  };
}
