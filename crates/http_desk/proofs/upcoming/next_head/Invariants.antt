use Rattle.std.proofs.Common.{◌≡◌}
use Rattle.http_desk.specs.Input.{ReadsOn, unread}
use Rattle.http_text.specs.Reads.{Awaits}
use Rattle.http_desk.proofs.upcoming.next_head.Given as goal

abbrev pub invariant-loop-head : goal.invariant-loop-head
invariant-loop-head g l =
    ReadsOn Awaits (unread l.initial.input) (unread l.input) l.initial.input.turns l.input.turns (g.R.Read.remaining l.initial.reader.inner) (g.R.Read.remaining l.reader.inner) l.initial.reader.reads l.reader.reads
    × (l.reader.failures ≡ l.initial.reader.failures)
    × (l.reader.ends ≡ l.initial.reader.ends)

abbrev pub decreases-loop-head : goal.decreases-loop-head
decreases-loop-head g l = l.input.turns
