use Rattle.std.proofs.Common.{List, subst, arith, ℕ}
use Rattle.http_text.specs.Rows.{HasWrittenRows}
use Rattle.credit_listing.specs.Rows.{share_rows}
use Rattle.credit_listing.proofs.lemmas.RowLemmas.{shares_more}
use Rattle.credit_listing.proofs.rows.rows_text.Goals as goal

pub loop-share-preserved : goal.loop-share-preserved
loop-share-preserved c =
    subst (λ (rows : List ℕ). HasWrittenRows c.put_share.new.table rows)
    (shares_more (share_rows c.args.number) c.args.shares.now c.loop-share.share-index c.share-item.result (omega arith) c.share-item.is)
    (c.in_ok-put_share.ensures _ c.loop-share.invariant)
