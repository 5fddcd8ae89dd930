use Rattle.society_core.proofs.lemmas.OwnerLemmas.{owns_alone}
use Rattle.society_core.proofs.laws.owners_are_alone.Goals as goal

pub returns : goal.returns
returns c = owns_alone
