use Rattle.std.proofs.Common.{◌≡◌}
use Rattle.http_desk.specs.Feeding.{HasFed}
use Rattle.http_desk.specs.Input.{unread}
use Rattle.http_desk.proofs.feeding.feed_request.Given as goal

abbrev pub invariant-loop-left : goal.invariant-loop-left
invariant-loop-left g l =
    HasFed (unread l.fn.input) (unread l.input) l.fn.input.turns l.input.turns (g.R.Read.remaining l.fn.reader.inner) (g.R.Read.remaining l.reader.inner) l.fn.reader.reads l.reader.reads l.head l.sink l.left
    × (l.reader.failures ≡ l.fn.reader.failures)
    × (l.sink.sender ≡ l.fn.sink.sender)
    × (l.reader.ends ≡ l.fn.reader.ends)

abbrev pub decreases-loop-left : goal.decreases-loop-left
decreases-loop-left g l = l.left
