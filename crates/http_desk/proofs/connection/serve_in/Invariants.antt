use Rattle.std.proofs.Common.{◌≡◌, ◌+◌, ◌*◌, length}
use Rattle.http_desk.specs.Input.{unread}
use Rattle.http_desk.specs.Outbox.{waiting}
use Rattle.http_desk.specs.Room.{IsReady}
use Rattle.http_desk.proofs.lemmas.ServeLemmas.{SoFar}
use Rattle.http_desk.proofs.connection.serve_in.Given as goal

abbrev pub invariant-loop-answered : goal.invariant-loop-answered
invariant-loop-answered g l =
    SoFar g.S.Store.state (g.R.Read.remaining l.fn.reader.inner) (g.R.Read.remaining l.reader.inner) (unread l.room.input) l.room.input.turns l.fn.room.input.turns l.fn.reader.reads l.reader.reads
    l.fn.desk l.desk (g.W.Write.contents l.fn.writer.inner) (g.W.Write.contents l.writer.inner) (waiting l.room.outbox) l.requests
    × IsReady l.room
    × (l.reader.failures ≡ l.fn.reader.failures)
    × (l.writer.failures ≡ l.fn.writer.failures)
    × (l.reader.ends ≡ l.fn.reader.ends)

abbrev pub decreases-loop-answered : goal.decreases-loop-answered
decreases-loop-answered g l = length (unread l.room.input) + l.room.input.turns * 16384
