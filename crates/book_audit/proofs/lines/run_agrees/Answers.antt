use Rattle.std.proofs.Common.{List, subst, sym, rules}
use Rattle.sqlite.specs.Held.{state}
use Rattle.society_arrivals.specs.declared.outcomes.Outcome.{Outcome}
use Rattle.society_rows.specs.Rows.{front_values}
use Rattle.book_audit.specs.Auditing.{HasOutcomes, HasRun}
use Rattle.book_audit.specs.LineSteps.{SettlesLine}
use Rattle.book_audit.proofs.lemmas.lines.LineAudits.{has_run, run_has}
use Rattle.book_audit.proofs.lemmas.lines.WantedRows.{alike_also}
use Rattle.book_audit.proofs.lines.run_agrees.Goals as goal

pub returns : goal.returns
returns g c = record {
  examined = record {
    same_reference = search rules;
    says =
        let s = c.args.sender.now in
        let run = c.args.run.now in
        let front = c.in_ok-front.front in
        let outcomes = c.as_slice.result.now in
        let line : SettlesLine s run front outcomes = subst (λ (l : List Outcome). SettlesLine s run front l) (sym c.as_slice.ensures.value) c.in_ok-front.ensures.settled in
        alike_also (HasOutcomes front.sender.now (front_values front) outcomes) (HasRun s run) (state g.S.Store c.args.tx.now.conn.now) (state g.S.Store c.outcomes_agree.new.tx.conn.now) c.outcomes_agree.result c.outcomes_agree.ensures.examined.says
        (has_run s run front outcomes line) (run_has s run front outcomes line);
  };
}
