use Rattle.std.proofs.Common.{map}
use Rattle.credit_listing.specs.Listed.{AddsRows}
use Rattle.credit_listing.specs.Rows.{holder_row}
use Rattle.credit_listing.proofs.rows.put_owned.Given as goal

-- the rows of those that came so far
abbrev pub invariant-loop-holder : goal.invariant-loop-holder
invariant-loop-holder l = AddsRows l.fn.table l.table (map (holder_row l.number l.share l.owner) (map (λ paid. (paid.0.now, paid.1.now)) l.yielded))
