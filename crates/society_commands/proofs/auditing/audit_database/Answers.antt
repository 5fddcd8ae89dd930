use Rattle.std.proofs.Common.{arith, refl}
use Rattle.society_commands.proofs.lemmas.DatabaseLemmas.{crash_there}
use Rattle.society_commands.proofs.auditing.audit_database.Goals as goal

pub returns-in-Ok-clause-sound : goal.returns-in-Ok-clause-sound
returns-in-Ok-clause-sound g c = λ zero. (record { sound = c.in-Ok.ensures.sound; crash = c.in-Ok.ensures.crash }, c.print.ensures)

pub returns-in-Err-clause-err : goal.returns-in-Err-clause-err
returns-in-Err-clause-err g c = λ one. (
  (
    c.in-Err.fault,
    record {
      not_opened = record {
        told = c.in-Err.ensures.err;
        empty = λ existing opened none. c.in-Err.ensures.empty opened none;
        failed = c.in-Err.ensures.medium;
        unchanged = c.in-Err.ensures.unchanged;
        crash = crash_there c.args.office.now _ _ c.in-Err.ensures.crash;
      };
      crash = c.in-Err.ensures.crash;
    },
    c.tell.ensures.told,
  ),
  refl,
)

pub returns-in-Err-clause-sound : goal.returns-in-Err-clause-sound
returns-in-Err-clause-sound g c = λ zero. absurd (omega (arith, zero, c.tell.ensures.status))
