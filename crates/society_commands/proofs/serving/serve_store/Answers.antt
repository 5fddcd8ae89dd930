use Rattle.std.proofs.Common.{◌∙◌, ap, inl, inr, refl}
use Rattle.std.specs.Net.Addr.{ipv4_octets}
use Rattle.desk_connections.specs.Doors.{network}
use Rattle.society_commands.proofs.lemmas.ConnectionLemmas.{came_in, serves_store}
use Rattle.society_commands.proofs.serving.serve_store.Goals as goal

pub returns-in-Ok-serve_connections-clause-served : goal.returns-in-Ok-serve_connections-clause-served
returns-in-Ok-serve_connections-clause-served g c = λ zero.
    let net = network g.N.Listen g.N.Door.Door g.N.Door.Sent.Read.remaining g.N.Door.Given.Write.contents in
    let new = c.in-Ok.ensures.new in
    let admitted = c.in-Ok-serve_connections.ensures.admitted in
    serves_store net g.S.Store.state c.args.desk.now c.serve_connections.new.desk g.W.Write.contents c.args.out.now c.print.new.out c.serve_connections.new.out c.in-Ok.door c.serve_connections.new.door c.serve_connections.new.door c.args.place c.args.place.connections _ c.print.ensures new.0
    c.in-Ok-serve_connections.ensures.served
    (came_in net c.new-address.result c.in-Ok.door c.serve_connections.new.door c.args.place.port c.args.place.patience c.args.place.connections _ (ap ipv4_octets c.new-address.ensures.ip, c.new-address.ensures.port) c.in-Ok.ensures.listens c.in-Ok.ensures.patient new.0 (admitted.0, admitted.1 ∙ new.1)) refl

pub returns-in-Err-clause-broken_off : goal.returns-in-Err-clause-broken_off
returns-in-Err-clause-broken_off g c = λ one.
    let net = network g.N.Listen g.N.Door.Door g.N.Door.Sent.Read.remaining g.N.Door.Given.Write.contents in
    let new = c.in-Ok.ensures.new in
    let came = c.in-Err.ensures.err in
    inr (
      came.0,
      came.1,
      serves_store net g.S.Store.state c.args.desk.now c.serve_connections.new.desk g.W.Write.contents c.args.out.now c.print.new.out c.serve_connections.new.out c.in-Ok.door came.2.0 c.serve_connections.new.door c.args.place came.0 _ c.print.ensures new.0 came.2.1
          (came_in net c.new-address.result c.in-Ok.door c.serve_connections.new.door c.args.place.port c.args.place.patience came.0 _ (ap ipv4_octets c.new-address.ensures.ip, c.new-address.ensures.port) c.in-Ok.ensures.listens c.in-Ok.ensures.patient new.0 came.3) tt,
      c.tell-in-Err.ensures.told,
    )

pub returns-in_default-clause-broken_off : goal.returns-in_default-clause-broken_off
returns-in_default-clause-broken_off g c = λ one. inl ((c.new-address.result, (ap ipv4_octets c.new-address.ensures.ip, c.new-address.ensures.port), c.in_default.ensures.err), refl, refl, c.tell.ensures.told, refl)
