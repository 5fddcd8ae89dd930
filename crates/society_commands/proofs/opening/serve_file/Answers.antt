use Rattle.std.proofs.Common.{◌≡◌, arith, inl, inr, refl, subst, sym}
use Rattle.http_desk.specs.declared.counted.Counted.{Counted}
use Rattle.sqlite.specs.Files.{file_state}
use Rattle.society_book.specs.Kept.{tables_state}
use Rattle.desk_connections.specs.Doors.{network}
use Rattle.society_commands.specs.Connections.{FileTables, LeavesBroken, serving_as}
use Rattle.society_commands.proofs.opening.serve_file.Goals as goal

-- what holds of a writer holds of the same writer
same_writer : {E : Type 0} (Holds : Counted E → Type 0) (old new : Counted E) → new ≡ old → Holds old → Holds new
same_writer Holds old new same is = subst Holds (sym same) is

pub returns-in-Ok-clause-served : goal.returns-in-Ok-clause-served
returns-in-Ok-clause-served g c = λ zero.
    (c.in-Ok.connection, c.in-Ok.ensures.opened, (c.serve_database-status.result.1, c.serve_database-status.ensures.served zero, c.close_left.ensures.handed))

pub returns-in-Ok-clause-broken_off : goal.returns-in-Ok-clause-broken_off
returns-in-Ok-clause-broken_off g c = λ one.
    let quiet = c.close_left.ensures.quiet (λ zero. omega (arith, zero, one)) in
    let net = network g.N.Listen g.N.Door.Door g.N.Door.Sent.Read.remaining g.N.Door.Given.Write.contents in
    let files : FileTables _ _ _ =
    record { file = g.O.File.Disk; opens = g.O.OpenDatabase; state = λ t. tables_state t.office (file_state t.conn) t.failures; connection = λ t. t.conn } in
    let broken = same_writer
    (λ (err : Counted _).
    LeavesBroken net files c.args.net (serving_as c.args.job c.args.office.now) c.in-Ok.connection c.serve_database-status.result.1
    g.W.Write.contents c.args.out.now c.serve_database-status.new.out g.E.Write.contents c.open_there.new.err err c.serve_database-status.result.2)
    c.serve_database-status.new.err c.close_left.new.err quiet (c.serve_database-status.ensures.broken_off one) in
    inr (c.in-Ok.connection, c.in-Ok.ensures.opened, (c.open_there.new.err, c.in-Ok.ensures.warned, (c.serve_database-status.result.1, broken, c.close_left.ensures.handed)))

pub returns-in-Err-clause-broken_off : goal.returns-in-Err-clause-broken_off
returns-in-Err-clause-broken_off g c = λ one. inl (c.in-Err.fault, c.in-Err.ensures.refused, refl, rw (sym c.in-Err.ensures.unwarned) c.tell.ensures.told, refl)

pub returns-in-Ok-clause-quiet : goal.returns-in-Ok-clause-quiet
returns-in-Ok-clause-quiet g c = λ zero.
    (c.open_there.new.err, c.in-Ok.ensures.warned, rw (c.serve_database-status.ensures.quiet zero) at c.close_left.ensures.told zero)
