use Rattle.std.proofs.Common.{◌∙◌, ap}
use Rattle.desk_connections.specs.Doors.{ways_by}
use Rattle.desk_connections.proofs.lemmas.ConnectionLemmas.{serves_one}
use Rattle.desk_connections.proofs.connections.serve_next.Goals as goal

pub returns : goal.returns
returns g c =
    let took = c.in_ok-sent.ensures in
    let sent = c.in_ok-sent.sent in
    let given = c.in_ok-sent.given in
    let serves = c.serve-outcome.ensures in
    let one = serves_one (ways_by g.D.Door g.D.Sent.Read.remaining g.D.Given.Write.contents) g.S.Store.state c.args.desk.now c.serve-outcome.new.desk c.args.door.now c.accept.new.self c.part.new.self c.new-reader.result c.serve-outcome.new.reader
    c.new-writer.result c.serve-outcome.new.writer sent given c.serve-outcome.result (took.admitted, took.patient.0, took.patient.1) (c.part.ensures.waits ∙ took.waits)
    (rw (c.into_inner.ensures, c.into_inner-2.ensures) at c.part.ensures.parted) c.new-reader.ensures.inner c.new-writer.ensures.inner serves.served serves.err serves.kept serves.turns in
    record {
      served = (
        one.0,
        one.1,
        one.4,
        (c.part.ensures.kept.0 ∙ took.accepted, c.part.ensures.kept.1 ∙ took.kept),
        ap g.D.Door.sent_by one.2 ∙ took.numbered.0 ∙ took.accepted,
        ap g.D.Door.given_to one.3 ∙ took.numbered.1 ∙ took.accepted,
      );
      err = tt;
    }
