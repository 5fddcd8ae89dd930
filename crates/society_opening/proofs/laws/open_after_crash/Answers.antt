use Rattle.sqlite.specs.Held.{state}
use Rattle.society_opening.proofs.lemmas.opened.Reopening.{err_so, found_left, kept_left, ok_so, outside_left, taken_left}
use Rattle.society_opening.proofs.laws.open_after_crash.Goals as goal

pub returns-clause-taken : goal.returns-clause-taken
returns-clause-taken g c clean left =
    let t = c.args.tables.now in
    taken_left t.office (state g.S.Store t.conn) (state g.T.Store c.args.found) t.rests clean (λ db is_open may. g.met.S.Store.settled t.conn.store db is_open may) c.schema-kept.ensures.live c.schema-found.ensures.live left

pub returns-clause-kept : goal.returns-clause-kept
returns-clause-kept g c clean left =
    let t = c.args.tables.now in
    ok_so c.open.result
    (λ opened audited live. kept_left t.office (state g.S.Store t.conn) (state g.T.Store c.args.found) t.rests clean (λ db is_open may. g.met.S.Store.settled t.conn.store db is_open may) c.schema-kept.ensures.live c.schema-found.ensures.live left (state g.T.Store opened.conn) live audited)
    (rw c.office.ensures at c.open.ensures.audited)

pub returns-clause-err : goal.returns-clause-err
returns-clause-err g c clean left =
    let t = c.args.tables.now in
    err_so c.open.result
    (λ e opens now. outside_left t.office (state g.S.Store t.conn) (state g.T.Store c.args.found) t.rests clean (λ db is_open may. g.met.S.Store.settled t.conn.store db is_open may) c.schema-kept.ensures.live c.schema-found.ensures.live left (state g.T.Store e.1) e.0 now opens)
    (rw c.office.ensures at c.open.ensures.opens)

pub returns-clause-left : goal.returns-clause-left
returns-clause-left g c left has =
    let t = c.args.tables.now in
    ok_so c.open.result
    (λ opened audited live. found_left t.office (state g.S.Store t.conn) (state g.T.Store c.args.found) (state g.T.Store opened.conn) left has live audited)
    (rw c.office.ensures at c.open.ensures.audited)
