use Rattle.desk_connections.specs.Connections.{AdmitsMore, ServesConnections}
use Rattle.desk_connections.specs.Doors.{ways_by}
use Rattle.desk_connections.proofs.connections.serve_connections.Given as goal

-- so many were served so far, and no other came in
abbrev pub invariant-loop-number : goal.invariant-loop-number
invariant-loop-number g l =
    let ways = ways_by g.D.Door g.D.Sent.Read.remaining g.D.Given.Write.contents in
    ServesConnections ways g.S.Store.state l.fn.desk l.desk g.W.Write.contents l.fn.out l.out l.fn.door l.door l.number × AdmitsMore ways l.fn.door l.door l.number (ways.doors.has_failed l.fn.door)
