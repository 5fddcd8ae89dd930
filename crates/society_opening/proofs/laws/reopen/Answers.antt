use Rattle.std.proofs.Common.{◌∙◌, sym}
use Rattle.sqlite.specs.Held.{state}
use Rattle.society_opening.proofs.lemmas.opened.Reopening.{err_so, kept_again, ok_so, outside_again}
use Rattle.society_opening.proofs.laws.reopen.Goals as goal

pub returns-clause-kept : goal.returns-clause-kept
returns-clause-kept g c clean =
    ok_so c.open.result
    (λ t audited live. kept_again c.args.tables.office (state g.S.Store c.into_connection.result) (c.into_connection.ensures.rests clean) (c.into_connection.ensures.live clean).1 (state g.S.Store t.conn) live audited ∙ sym c.into_connection.ensures.book)
    (rw c.office.ensures at c.open.ensures.audited)

pub returns-clause-err : goal.returns-clause-err
returns-clause-err g c clean =
    err_so c.open.result
    (λ e opens now. outside_again c.args.tables.office (state g.S.Store c.into_connection.result) (c.into_connection.ensures.rests clean) (c.into_connection.ensures.live clean).1 (state g.S.Store e.1) e.0 now opens)
    (rw c.office.ensures at c.open.ensures.opens)
