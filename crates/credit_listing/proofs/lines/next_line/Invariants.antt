use Rattle.std.proofs.Common.{◌≡◌, ◌≤◌, length}
use Rattle.http_desk.specs.Counted.{failures_of}
use Rattle.http_desk.specs.Input.{unread}
use Rattle.credit_listing.specs.Lines.{ComesBehind, NoFeed}
use Rattle.credit_listing.proofs.lines.next_line.Given as goal

-- what was searched has no line feed, and what came stands behind what there was
abbrev pub invariant-loop : goal.invariant-loop
invariant-loop g l = record {
  within : l.seen ≤ length (unread l.input);
  none : NoFeed (unread l.input) l.seen;
  reads : failures_of l.reader ≡ failures_of l.fn.reader;
  came : ComesBehind g.R.Read.remaining l.fn.reader l.reader l.fn.input l.input;
}
