use Rattle.std.proofs.Common.{rules}
use Rattle.sqlite.specs.Held.{state}
use Rattle.society_rows.specs.Layouts.{HasOlder, number_of}
use Rattle.society_opening.specs.Audits.{TriesOver}
use Rattle.society_opening.specs.Older.{HoldsOlder}
use Rattle.society_opening.specs.TakingOver.{TakesOffice}
use Rattle.society_opening.proofs.lemmas.opened.AuditedLemmas.{took, tries_by}
use Rattle.society_opening.proofs.auditing.try_over.Goals as goal

pub returns-clause-tries : goal.returns-clause-tries
returns-clause-tries g c =
    let mid = state g.S.Store c.take_office-taken.new.tx.conn.now in
    let new = state g.S.Store c.rollback.new.self.0 in
    let done : TriesOver c.args.office.now c.args.layout (state g.S.Store c.args.conn.now) new c.take_office-taken.result =
    tries_by g.S.Store (HasOlder c.args.layout) (number_of c.args.layout) c.args.office.now (HoldsOlder c.args.office.now c.args.layout) (TakesOffice c.args.office.now c.args.layout) c.args.conn.now mid new c.take_office-taken.result (took c.args.office.now c.args.layout) c.see_last_commit.ensures.settled
    (rw (c.transaction-tx.ensures.begun, c.conn.view_is) at c.take_office-taken.ensures.does.says) (rw (c.transaction-tx.ensures.begun, c.conn.view_is) at c.take_office-taken.ensures.err)
    (rw (c.transaction-tx.ensures.begun, c.conn.view_is) at c.take_office-taken.ensures.damaged) (rw (c.transaction-tx.ensures.begun, c.conn.view_is) at c.take_office-taken.ensures.medium) c.rollback.ensures.undone c.rollback.ensures.survives in
    search rules
