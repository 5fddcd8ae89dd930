use Rattle.std.proofs.Common.{◌≡◌, List, Ok, subst, sym, rules}
use Rattle.sqlite.specs.Held.{state}
use Rattle.society_rows.specs.Rows.{front_values}
use Rattle.society_arrivals.specs.Arriving.{PutsOutcomes}
use Rattle.society_arrivals.specs.Going.{IsWholeIn}
use Rattle.society_book.specs.RightRows.{KeepsUnsound}
use Rattle.society_arrivals.specs.Runs.{RunValue}
use Rattle.society_arrivals.specs.declared.outcomes.Outcome.{Outcome}
use Rattle.society_book.specs.Steps.{Never}
use Rattle.book_audit.specs.LineSteps.{SettlesLine}
use Rattle.book_derivation.proofs.lemmas.Derivings.{derives_examined, derives_then}
use Rattle.book_derivation.proofs.lemmas.OwnWrites.{writes_line}
use Rattle.book_derivation.specs.Lines.{WritesLine}
use Rattle.book_derivation.proofs.lines.write_line.Goals as goal

pub returns : goal.returns
returns g c = record {
  derives = record {
    same_reference = search rules;
    says =
        let o = c.args.office.now in
        let s = c.args.sender.now in
        let run = c.in_ok-run.run' in
        let front = c.in_ok-front.front in
        let outcomes = c.as_slice.result.now in
        let old = state g.S.Store c.args.tx.now.conn.now in
        let mid = state g.S.Store c.run_of.new.tx.conn.now in
        let new = state g.S.Store c.write_outcomes.new.tx.conn.now in
        let settles : SettlesLine s run front outcomes = subst (λ (l : List Outcome). SettlesLine s run front l) (sym c.as_slice.ensures.value) c.in_ok-front.ensures.settled in
        derives_then {X = RunValue} {Y = Unit {0}} KeepsUnsound Never KeepsUnsound old mid new run c.write_outcomes.result (λ before after x. (after ≡ before) × IsWholeIn o s before x) (λ before after _. PutsOutcomes (front_values front) front.sender.now outcomes before after) (λ before after _. WritesLine o s before after)
        (derives_examined {X = RunValue} KeepsUnsound old mid (Ok run) (IsWholeIn o s) c.in_ok-run.ensures.examined.says) c.write_outcomes.ensures.derives.says
        (λ y own later found puts. writes_line o s run front outcomes settles old.now.trees mid.now.trees new.now.trees found.0 found.1 puts)
        (λ own found never. absurd never);
  };
}
