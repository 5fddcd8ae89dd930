use Rattle.std.proofs.Common.{rules}
use Rattle.sqlite.specs.Held.{state}
use Rattle.society_rows.specs.Questions.{RowsAnswer, Asks}
use Rattle.society_rows.proofs.lemmas.readings.AskedRows.{asks_by}
use Rattle.society_rows.proofs.questions.ask.Goals as goal

pub returns-clause-asked : goal.returns-clause-asked
returns-clause-asked g c =
    let mid = state g.S.Store c.answer-rows.new.tx.conn.now in
    let new = state g.S.Store c.rollback.new.self.0 in
    let done : Asks (state g.S.Store c.args.conn.now) new c.answer-rows.result (λ db rows. RowsAnswer c.args.question db rows.items) =
    asks_by g.S.Store c.args.conn.now mid new c.answer-rows.result _ c.see_last_commit.ensures.settled (rw (c.transaction-tx.ensures.begun, c.conn.view_is) at c.answer-rows.ensures.read.says) c.rollback.ensures.undone c.rollback.ensures.survives in
    search rules
