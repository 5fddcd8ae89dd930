use Rattle.std.proofs.Common.{rules}
use Rattle.sqlite.specs.Held.{state}
use Rattle.society_book.proofs.lemmas.together.JudgedLemmas.{examines_then}
use Rattle.book_audit.specs.Auditing.{AreLinesOf}
use Rattle.book_audit.specs.LineSteps.{DeniesLines, FindsLines}
use Rattle.book_audit.proofs.lines.lines_agree.Goals as goal

pub returns : goal.returns
returns g c = record {
  examined = record {
    same_reference = search rules;
    says =
        let o = c.args.office.now in
        let senders = c.args.senders.now in
        examines_then {X = Unit {0}} {Y = Unit {0}} (DeniesLines o senders) (DeniesLines o senders) (DeniesLines o senders) (state g.S.Store c.args.tx.now.conn.now) (state g.S.Store c.each_agrees.new.tx.conn.now) (state g.S.Store c.has_no_stranger.new.tx.conn.now) tt c.has_no_stranger.result (λ db _. FindsLines o senders db) (λ db _. AreLinesOf senders db) (λ db _. FindsLines o senders db × AreLinesOf senders db)
        c.in_ok-each_agrees.ensures.examined.says (c.has_no_stranger.ensures.examined o) (λ y a b. (a, b)) (λ a no. no);
  };
}
