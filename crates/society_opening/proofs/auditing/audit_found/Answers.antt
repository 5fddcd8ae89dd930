use Rattle.society_opening.proofs.lemmas.opened.AuditedLemmas.{audits_newest, audits_older}
use Rattle.society_opening.proofs.auditing.audit_found.Goals as goal

pub returns-in-Layout : goal.returns-in-Layout
returns-in-Layout g c = record { audits = audits_newest c.args.office.now _ _ c.audit.result c.in-Layout.ensures.found c.audit.ensures.tries }

pub returns-in-Older : goal.returns-in-Older
returns-in-Older g c = record { audits = audits_older c.args.office.now _ _ c.try_over.result c.in-Older.layout c.in-Older.ensures.found c.try_over.ensures.tries }
