use Rattle.std.proofs.Common.{rules}
use Rattle.sqlite.specs.Held.{state}
use Rattle.society_rows.specs.Stored.{HasLayout}
use Rattle.society_book.specs.Kept.{HoldsOwnBook}
use Rattle.society_opening.specs.Audits.{TriesNewest}
use Rattle.society_opening.proofs.lemmas.opened.AuditedLemmas.{tries_by}
use Rattle.society_opening.proofs.opening.audit.Goals as goal

pub returns-clause-tries : goal.returns-clause-tries
returns-clause-tries g c =
    let mid = state g.S.Store c.examine_office-found.new.tx.conn.now in
    let new = state g.S.Store c.rollback.new.self.0 in
    let done : TriesNewest c.args.office.now (state g.S.Store c.args.conn.now) new c.examine_office-found.result =
    tries_by g.S.Store HasLayout 3 c.args.office.now (HoldsOwnBook c.args.office.now) _ c.args.conn.now mid new c.examine_office-found.result (λ before after said. ∣ said.1 ∣₁) c.see_last_commit.ensures.settled
    (rw (c.transaction-tx.ensures.begun, c.conn.view_is) at c.examine_office-found.ensures.does.says) (rw (c.transaction-tx.ensures.begun, c.conn.view_is) at c.examine_office-found.ensures.err)
    (rw (c.transaction-tx.ensures.begun, c.conn.view_is) at c.examine_office-found.ensures.damaged) (rw (c.transaction-tx.ensures.begun, c.conn.view_is) at c.examine_office-found.ensures.medium) c.rollback.ensures.undone c.rollback.ensures.survives in
    search rules
