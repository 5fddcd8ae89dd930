use Rattle.book_audit.specs.Examining.{IsNot}
use Rattle.society_book.proofs.lemmas.together.JudgedLemmas.{examines_also}
use Rattle.sqlite.specs.Held.{state}
use Rattle.society_book.specs.BookRows.{book_of}
use Rattle.book_audit.specs.Auditing.{AreLinesOf}
use Rattle.book_audit.specs.LineSteps.{AreAllOfThese, DeniesLines}
use Rattle.book_audit.proofs.lemmas.lines.Strangers.{lines_of_these, own_these}
use Rattle.book_audit.proofs.strangers.has_no_stranger.Goals as goal

pub returns-clause-examined : goal.returns-clause-examined
returns-clause-examined g c = λ office.
    let senders = c.args.senders.now in
    let set = c.in_ok-set.set in
    let old = state g.S.Store c.args.tx.now.conn.now in
    let db = old.now.trees in
    examines_also {X = Unit {0}} (IsNot (AreAllOfThese set)) (DeniesLines office senders) old (state g.S.Store c.tables_agree.new.tx.conn.now) c.tables_agree.result (λ d _. AreAllOfThese set d) (λ d _. AreLinesOf senders d) c.tables_agree.ensures.examined.says
    (λ x these. lines_of_these senders set c.in_ok-set.ensures db these)
    (λ no are holds. no (own_these office (book_of db) db holds senders are set c.in_ok-set.ensures))
