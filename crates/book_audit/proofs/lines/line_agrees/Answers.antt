use Rattle.std.proofs.Common.{rules}
use Rattle.book_audit.specs.Examining.{IsNot}
use Rattle.society_book.proofs.lemmas.together.JudgedLemmas.{examines_then}
use Rattle.sqlite.specs.Held.{state}
use Rattle.society_core.proofs.lemmas.Books.{sound_order}
use Rattle.society_book.specs.BookRows.{book_of}
use Rattle.society_arrivals.specs.Going.{IsWholeIn}
use Rattle.society_book.specs.RightRows.{KeepsUnsound}
use Rattle.book_audit.specs.Auditing.{HasRun}
use Rattle.book_audit.specs.LineSteps.{DeniesLine, FindsLine}
use Rattle.book_audit.proofs.lemmas.lines.LineAudits.{has_line, line_has}
use Rattle.book_audit.proofs.lemmas.lines.OwnLines.{own_line}
use Rattle.book_audit.proofs.lines.line_agrees.Goals as goal

pub returns : goal.returns
returns g c = record {
  examined = record {
    same_reference = search rules;
    says =
        let o = c.args.office.now in
        let s = c.args.sender.now in
        let run = c.in_ok-run.run' in
        let old = state g.S.Store c.args.tx.now.conn.now in
        let db = old.now.trees in
        examines_then {Y = Unit {0}} KeepsUnsound (IsNot (HasRun s run)) (DeniesLine o s) old (state g.S.Store c.run_of.new.tx.conn.now) (state g.S.Store c.run_agrees.new.tx.conn.now) run c.run_agrees.result (IsWholeIn o s) (λ d _. HasRun s run d) (λ d _. FindsLine o s d)
        c.in_ok-run.ensures.examined.says c.run_agrees.ensures.examined.says
        (λ y whole has b keeps order. has_line o b s run (whole b keeps order) order.right db has)
        (λ whole no known holds.
        let b = book_of db in
        let order = sound_order b holds.sound s in
        no (line_has o b s run (whole b (record { transmissions = holds.kept.transmissions; ends = holds.kept.ends }) order) order.right db (own_line o b db s holds known)));
  };
}
