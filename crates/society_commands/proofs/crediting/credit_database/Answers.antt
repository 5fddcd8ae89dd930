use Rattle.std.proofs.Common.{arith, inl, inr, refl}
use Rattle.sqlite.specs.Held.{state}
use Rattle.society_commands.proofs.lemmas.CreditLemmas.{audited_then, over_found, stops_found}
use Rattle.society_commands.proofs.lemmas.DatabaseLemmas.{crash_there}
use Rattle.society_commands.proofs.crediting.credit_database.Goals as goal

pub returns-in-Ok-clause-credits : goal.returns-in-Ok-clause-credits
returns-in-Ok-clause-credits g c =
    rw c.into_connection.ensures.same
    (audited_then c.args.office.now (state g.M.Store c.args.connection) (state g.M.Store c.in-Ok.connection) (state g.M.Store c.credit_tables-status.new.conn) c.credit_tables-status.result _ c.in-Ok.ensures.sound c.in-Ok.ensures.crash c.credit_tables-status.ensures.kept c.credit_tables-status.ensures.listed)

pub returns-in-Err-clause-credits : goal.returns-in-Err-clause-credits
returns-in-Err-clause-credits g c = record {
  shown = λ clean opened again. c.in-Err.ensures.unchanged clean again;
  sound = λ zero. absurd (omega (arith, zero, c.tell.ensures.status));
  listed = λ zero. absurd (omega (arith, zero, c.tell.ensures.status));
  crash = c.in-Err.ensures.crash;
}

pub returns-in-Ok-clause-stopped : goal.returns-in-Ok-clause-stopped
returns-in-Ok-clause-stopped g c =
    rw c.into_connection.ensures.same
    (λ one. inr (stops_found _ _ c.args.office.now g.R.Read.remaining g.W.Write.contents g.E.Write.contents c.args.reader.now c.credit_tables-status.new.reader c.args.out.now c.credit_tables-status.new.out c.args.err.now c.credit_tables-status.new.err
    (over_found c.args.office.now (state g.M.Store c.args.connection) (state g.M.Store c.in-Ok.connection) (state g.M.Store c.credit_tables-status.new.conn) c.in-Ok.ensures.sound c.credit_tables-status.ensures.kept)
    (c.credit_tables-status.ensures.stopped one)))

pub returns-in-Err-clause-stopped : goal.returns-in-Err-clause-stopped
returns-in-Err-clause-stopped g c = λ one. inl (
  (
    c.in-Err.fault,
    record {
      not_opened = record {
        told = c.in-Err.ensures.err;
        empty = λ existing opened none. c.in-Err.ensures.empty opened none;
        failed = c.in-Err.ensures.medium;
        unchanged = c.in-Err.ensures.unchanged;
        crash = crash_there c.args.office.now _ _ c.in-Err.ensures.crash;
      };
      crash = c.in-Err.ensures.crash;
    },
    c.tell.ensures.told,
  ),
  refl,
  refl,
)
