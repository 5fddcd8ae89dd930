use Rattle.sqlite.specs.Held.{state}
use Rattle.society_commands.proofs.lemmas.DatabaseLemmas.{not_any, not_existing, over_any, over_existing}
use Rattle.society_commands.proofs.opening.open_tables.Goals as goal

pub returns-then-existing-clause-over : goal.returns-then-existing-clause-over
returns-then-existing-clause-over g c =
    rw c.if-existing.true
    (over_existing c.args.office.now (state g.M.Store c.args.connection) (λ t. t.office) (λ t. state g.M.Store t.conn) (λ t. t.failures) (state g.M.Store) _
    c.open_existing.result c.open_existing.ensures.office c.open_existing.ensures.uncounted c.open_existing.ensures.empty c.open_existing.ensures.audited c.open_existing.ensures.crash)

pub returns-then-existing-clause-err : goal.returns-then-existing-clause-err
returns-then-existing-clause-err g c =
    rw c.if-existing.true
    (not_existing c.args.office.now (state g.M.Store c.args.connection) (λ t. t.office) (λ t. state g.M.Store t.conn) (λ t. t.failures) (state g.M.Store) _
    c.open_existing.result c.open_existing.ensures.err c.open_existing.ensures.empty c.open_existing.ensures.medium c.open_existing.ensures.unchanged c.open_existing.ensures.crash)

pub returns-else-existing-clause-over : goal.returns-else-existing-clause-over
returns-else-existing-clause-over g c =
    rw c.if-existing.false
    (over_any c.args.office.now (state g.M.Store c.args.connection) (λ t. t.office) (λ t. state g.M.Store t.conn) (λ t. t.failures) (state g.M.Store)
    c.open.result c.open.ensures.office c.open.ensures.uncounted c.open.ensures.known c.open.ensures.begun c.open.ensures.audited c.open.ensures.taken c.open.ensures.crash)

pub returns-else-existing-clause-err : goal.returns-else-existing-clause-err
returns-else-existing-clause-err g c =
    rw c.if-existing.false
    (not_any c.args.office.now (state g.M.Store c.args.connection) (λ t. t.office) (λ t. state g.M.Store t.conn) (λ t. t.failures) (state g.M.Store)
    c.open.result c.open.ensures.err c.open.ensures.medium c.open.ensures.unchanged c.open.ensures.crash)
