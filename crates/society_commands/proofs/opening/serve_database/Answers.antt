use Rattle.std.proofs.Common.{refl}
use Rattle.sqlite.specs.Files.{file_state}
use Rattle.society_book.specs.Kept.{tables_state}
use Rattle.society_commands.proofs.lemmas.ConnectionLemmas.{serves_database, stops_database}
use Rattle.desk_connections.specs.Doors.{network}
use Rattle.society_commands.specs.Troubles.{Tells}
use Rattle.society_commands.proofs.opening.serve_database.Goals as goal

pub returns-in-Ok-clause-served : goal.returns-in-Ok-clause-served
returns-in-Ok-clause-served g c = λ zero.
    serves_database (network g.N.Listen g.N.Door.Door g.N.Door.Sent.Read.remaining g.N.Door.Given.Write.contents) c.in-Ok.tables c.new-desk.result c.serve_store-status.new.desk c.into_store.result (λ s. tables_state s.office (file_state s.conn) s.failures) c.args.office.now c.args.job.database.existing
    (file_state c.args.connection) c.in-Ok.ensures.over c.new-desk.ensures c.into_store.ensures g.W.Write.contents c.args.out.now c.serve_store-status.new.out c.args.job.place c.serve_store-status.result.1
    (c.serve_store-status.ensures.served zero)

pub returns-in-Ok-clause-broken_off : goal.returns-in-Ok-clause-broken_off
returns-in-Ok-clause-broken_off g c = λ one.
    stops_database (network g.N.Listen g.N.Door.Door g.N.Door.Sent.Read.remaining g.N.Door.Given.Write.contents) c.in-Ok.tables c.new-desk.result c.serve_store-status.new.desk c.into_store.result (λ s. tables_state s.office (file_state s.conn) s.failures) c.args.office.now c.args.job.database.existing
    (file_state c.args.connection) c.in-Ok.ensures.over c.new-desk.ensures c.into_store.ensures g.W.Write.contents c.args.out.now c.serve_store-status.new.out c.args.job.place c.serve_store-status.result.1
    (Tells g.E.Write.contents c.args.err.now c.serve_store-status.new.err) (c.serve_store-status.ensures.broken_off one)

pub returns-in-Err-clause-broken_off : goal.returns-in-Err-clause-broken_off
returns-in-Err-clause-broken_off g c = λ one. (c.in-Err.fault, c.in-Err.ensures.err, refl, c.tell.ensures.told, refl)
