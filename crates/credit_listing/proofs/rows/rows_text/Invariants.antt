use Rattle.std.proofs.Common.{take}
use Rattle.std.specs.List.{flat_map}
use Rattle.http_text.specs.Rows.{HasWrittenRows}
use Rattle.credit_listing.specs.Rows.{rows_written, share_rows}
use Rattle.credit_listing.proofs.rows.rows_text.Given as goal

-- the rows of the shares so far
abbrev pub invariant-loop-share : goal.invariant-loop-share
invariant-loop-share l = HasWrittenRows l.table (rows_written (flat_map (share_rows l.number) (take l.share-index l.shares)))
