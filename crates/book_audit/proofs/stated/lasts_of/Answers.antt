use Rattle.std.proofs.Common.{◌≡◌, true}
use Rattle.book_audit.specs.Entries.{is_right_stated}
use Rattle.book_audit.specs.Judging.{last_stated}
use Rattle.book_audit.proofs.lemmas.entries.KeyForms.{some_if}
use Rattle.book_audit.proofs.lemmas.entries.KeyedRows.{more_of, more_told}
use Rattle.book_audit.proofs.stated.lasts_of.Goals as goal

pub loop-row-preserved : goal.loop-row-preserved
loop-row-preserved c =
    let rows = c.args.rows.now in
    let i = c.loop-row.row-index in
    let row = c.row-item.result in
    let told = some_if _ _ _ _ c.last_in.ensures c.in-Some.is in
    record {
      right = more_of (λ r. is_right_stated r ≡ true) rows i row c.loop-row-test.true c.row-item.is c.loop-row.invariant.right told.0;
      these = more_told last_stated rows i row c.in-Some.last c.loop-row.lasts.items c.push.new.self.items c.loop-row-test.true c.row-item.is c.loop-row.invariant.these c.in_ok-push.ensures.items told.1;
    }
