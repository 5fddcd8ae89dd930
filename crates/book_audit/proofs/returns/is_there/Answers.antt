use Rattle.std.proofs.Common.{◌∙◌, ◌==◌, List, Ok, ap, length, rules}
use Rattle.sqlite.specs.Held.{state}
use Rattle.sqlite_value.specs.Order.{Row}
use Rattle.society_book.proofs.lemmas.together.JudgedLemmas.{examines_as}
use Rattle.society_book.specs.Steps.{Never}
use Rattle.society_book.proofs.lemmas.rows_alike.KeyRows.{refilled_by}
use Rattle.book_audit.proofs.lemmas.orders.Lines.{return_told}
use Rattle.book_audit.proofs.returns.is_there.Goals as goal

pub returns : goal.returns
returns g c = record {
  examined = record {
    same_reference = search rules;
    says =
        let old = state g.S.Store c.args.tx.now.conn.now in
        let key = c.args.key.now in
        let rows = c.in_ok-rows.rows.items in
        examines_as Never Never old (state g.S.Store c.ask.new.tx.conn.now) c.in_ok-rows.rows (Ok _) _ _ c.in_ok-rows.ensures.examined.says
        (λ lists o b holds. return_told o b old.now.trees holds key (refilled_by key.reporter _ c.as_bytes.ensures.bytes c.as_bytes.ensures.back) rows (rw (c.as_bytes.ensures.bytes, c.value.ensures.value) at lists) c.is_empty.result (c.is_empty.ensures ∙ ap (λ (l : List Row). length l == 0) c.as_slice.ensures.value))
        (λ lists. tt);
  };
}
