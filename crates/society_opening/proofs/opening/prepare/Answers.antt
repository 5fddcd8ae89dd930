use Rattle.sqlite.specs.Held.{state}
use Rattle.society_opening.proofs.lemmas.opened.OpenedLemmas.{found_no_older, no_failure, opens_audited, opens_begun, opens_other, opens_taken}
use Rattle.society_opening.specs.declared.open_fault.OpenFault.TheVariants.{Schema}
use Rattle.society_opening.proofs.opening.prepare.Goals as goal

pub returns-in-Nothing-clause-opens : goal.returns-in-Nothing-clause-opens
returns-in-Nothing-clause-opens g c =
    opens_begun c.args.office.now _ _ c.begin.result c.in-Nothing.ensures.settled
    c.in-Nothing.ensures.found c.begin.ensures.created c.begin.ensures.neither c.begin.ensures.err c.begin.ensures.medium c.begin.ensures.crash

pub returns-in-Layout-clause-opens : goal.returns-in-Layout-clause-opens
returns-in-Layout-clause-opens g c =
    opens_audited c.args.office.now _ _ c.audit.result c.in-Layout.ensures.settled c.in-Layout.ensures.found c.audit.ensures.tries

pub returns-in-Older-clause-opens : goal.returns-in-Older-clause-opens
returns-in-Older-clause-opens g c =
    opens_taken c.args.office.now c.in-Older.layout _ _ c.take_over.result c.in-Older.ensures.found c.take_over.ensures.takes c.take_over.ensures.medium

pub returns-in-Other-clause-opens : goal.returns-in-Other-clause-opens
returns-in-Other-clause-opens g c =
    opens_other c.args.office.now _ Schema no_failure c.in-Other.ensures.settled
    (c.in-Other.ensures.found.0, λ has. absurd (c.in-Other.ensures.found.1 has), λ layout was. absurd (found_no_older (state g.S.Store c.args.conn.now).now c.in-Other.ensures.found layout was))
