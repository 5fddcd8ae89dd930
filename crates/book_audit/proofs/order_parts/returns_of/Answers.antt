use Rattle.std.proofs.Common.{◌∙◌, ap, not, sym}
use Rattle.std.proofs.lemmas.Bool.{false≢true}
use Rattle.std.proofs.lemmas.Slice.Eq.{bytes_eq-Decides}
use Rattle.sqlite_trees.proofs.ListLemmas.{all-get_or}
use Rattle.society_book.specs.Columns.{text_at}
use Rattle.book_audit.specs.OrderParts.{IsKnownPaid}
use Rattle.book_audit.proofs.lemmas.orders.Parts.{paid_written}
use Rattle.book_audit.proofs.order_parts.returns_of.Goals as goal

pub returns-then-ne-clause-judged : goal.returns-then-ne-clause-judged
returns-then-ne-clause-judged c all =
    let text = c.in-Ok.row.reporter.now in
    let is = all-get_or (IsKnownPaid c.args.pools.now) c.args.rows.now c.loop-row.row-index c.row-item.result all c.loop-row-test.true in
    let same = c.as_bytes.ensures.bytes ∙ paid_written c.args.pools.now c.args.rows.now c.loop-row.row-index c.row-item.result text c.in-Ok-from_bytes.reporter c.loop-row-test.true c.row-item.is all (ap (text_at 0) (sym c.in-Ok.ensures.value)) (sym c.from_bytes.ensures ∙ c.in-Ok-from_bytes.is) in
    absurd (false≢true (sym (c.ne.ensures ∙ ap not ((bytes_eq-Decides c.as_bytes.result.now text).1 same)) ∙ c.if-ne.true))
