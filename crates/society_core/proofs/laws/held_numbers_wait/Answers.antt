use Rattle.society_core.proofs.lemmas.HeldLemmas.{held_ascend, held_waits}
use Rattle.society_core.proofs.laws.held_numbers_wait.Goals as goal

pub returns : goal.returns
returns c = record { waits = held_waits; ascending = held_ascend }
