use Rattle.std.proofs.Common.{sym, ap}
use Rattle.society_rows.specs.Layout.{written_out}
use Rattle.society_rows.specs.TableNames.{listing_text}
use Rattle.society_rows.proofs.tables.shape_of.Goals as goal

pub returns-in-SegmentEnds-clause-listing : goal.returns-in-SegmentEnds-clause-listing
unfolding written_out
returns-in-SegmentEnds-clause-listing c = ap listing_text (sym c.in-SegmentEnds.is)
