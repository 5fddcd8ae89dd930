use Rattle.society_core.proofs.lemmas.SoundRuns.{held_balances, held_credits}
use Rattle.society_core.proofs.laws.what_is_held_pays_nothing.Goals as goal

pub returns : goal.returns
returns c = record { credits = held_credits; balances = held_balances }
