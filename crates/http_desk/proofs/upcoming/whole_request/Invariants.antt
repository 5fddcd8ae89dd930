use Rattle.std.proofs.Common.{◌≡◌, ◌+◌, ◌≤◌}
use Rattle.std.specs.Prelude.{vec_capacity}
use Rattle.http_desk.specs.Head.{HasHead}
use Rattle.http_desk.specs.Input.{ReadsOn, unread, max_piece}
use Rattle.http_text.specs.Reads.{Awaits}
use Rattle.http_desk.proofs.upcoming.whole_request.Given as goal

abbrev pub invariant-loop-input : goal.invariant-loop-input
invariant-loop-input g l =
    ReadsOn Awaits (unread l.fn.input) (unread l.input) l.fn.input.turns l.input.turns (g.R.Read.remaining l.fn.reader.inner) (g.R.Read.remaining l.reader.inner) l.fn.reader.reads l.reader.reads
    × (l.reader.failures ≡ l.fn.reader.failures)
    × HasHead (unread l.input) l.head
    × (l.size + max_piece ≤ vec_capacity l.input.bytes)
    × (l.reader.ends ≡ l.fn.reader.ends)

abbrev pub decreases-loop-input : goal.decreases-loop-input
decreases-loop-input g l = l.input.turns
