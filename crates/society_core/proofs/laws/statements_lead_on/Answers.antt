use Rattle.society_core.proofs.lemmas.Statements.{leads_on}
use Rattle.society_core.proofs.laws.statements_lead_on.Goals as goal

pub returns : goal.returns
returns c = leads_on
