use Rattle.std.proofs.Common.{[], ◌∷◌, rules}
use Rattle.sqlite.specs.Held.{state}
use Rattle.sqlite.specs.State.{State}
use Rattle.society_rows.specs.Layout.{returns}
use Rattle.society_rows.specs.Rows.{return_values}
use Rattle.society_rows.specs.Stored.{Adds}
use Rattle.society_book.specs.Shown.{ReturnComes, SurvivesChange}
use Rattle.society_book.proofs.lemmas.together.AloneLemmas.{at_end, written_survives}
use Rattle.society_book.proofs.returns.write_return.Goals as goal

pub returns-in_err-commit-clause-survives : goal.returns-in_err-commit-clause-survives
returns-in_err-commit-clause-survives g c =
    let row = return_values c.args.row.now in
    let old = state g.S.Store c.args.conn.now in
    let later = state g.S.Store c.add.new.tx.conn.now in
    let new = state g.S.Store c.commit.new.self.0 in
    let done : SurvivesChange (ReturnComes row) old new =
    written_survives g.S.Store c.args.conn.now later new (Adds returns (row ∷ [])) (ReturnComes row) (rw (c.transaction-tx.ensures.begun, c.conn.view_is) at c.in_ok-add.ensures.written.says)
    (rw (c.transaction-tx.ensures.begun, c.conn.view_is) at c.in_ok-add.ensures.whole) (λ d e more. record { rows = more.rows; others = more.others }) c.commit.ensures.survives in
    at_end (λ (z : State). SurvivesChange (ReturnComes row) old z) new _ (search rules) done

pub returns-clause-survives : goal.returns-clause-survives
returns-clause-survives g c =
    let row = return_values c.args.row.now in
    let old = state g.S.Store c.args.conn.now in
    let later = state g.S.Store c.add.new.tx.conn.now in
    let new = state g.S.Store c.commit.new.self.0 in
    let done : SurvivesChange (ReturnComes row) old new =
    written_survives g.S.Store c.args.conn.now later new (Adds returns (row ∷ [])) (ReturnComes row) (rw (c.transaction-tx.ensures.begun, c.conn.view_is) at c.in_ok-add.ensures.written.says)
    (rw (c.transaction-tx.ensures.begun, c.conn.view_is) at c.in_ok-add.ensures.whole) (λ d e more. record { rows = more.rows; others = more.others }) c.commit.ensures.survives in
    at_end (λ (z : State). SurvivesChange (ReturnComes row) old z) new _ (search rules) done
