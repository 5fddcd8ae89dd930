use Rattle.std.proofs.Common.{inl, inr, refl, sym}
use Rattle.society_commands.proofs.auditing.audit_file.Goals as goal

pub returns-in-Ok-clause-sound : goal.returns-in-Ok-clause-sound
returns-in-Ok-clause-sound g c = λ zero.
    let s = c.audit_database-status.ensures.sound zero in
    (c.in-Ok.connection, c.in-Ok.ensures.opened, (c.audit_database-status.result.1, s.0, refl), s.1)

pub returns-in-Ok-clause-err : goal.returns-in-Ok-clause-err
returns-in-Ok-clause-err g c = λ one.
    let f = c.audit_database-status.ensures.err one in
    let told = f.0.2 in
    (inr (c.in-Ok.connection, c.in-Ok.ensures.opened, (c.audit_database-status.result.1, (f.0.0, f.0.1, (c.open_there.new.err, c.in-Ok.ensures.warned, told)), refl)), f.1)

pub returns-in-Err-clause-err : goal.returns-in-Err-clause-err
returns-in-Err-clause-err g c = λ one. (inl (c.in-Err.fault, c.in-Err.ensures.refused, rw (sym c.in-Err.ensures.unwarned) c.tell.ensures.told), refl)

pub returns-in-Ok-clause-quiet : goal.returns-in-Ok-clause-quiet
returns-in-Ok-clause-quiet g c = λ zero. (c.open_there.new.err, c.in-Ok.ensures.warned, c.audit_database-status.ensures.quiet zero)
