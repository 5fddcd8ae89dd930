use Rattle.society_core.proofs.lemmas.Gaps.{acks_alike, verdicts_alike, works_alike}
use Rattle.society_core.proofs.lemmas.Statements.{plain_alike}
use Rattle.society_core.proofs.laws.what_waits_is_unapplied.Goals as goal

pub returns : goal.returns
returns c = record { works = works_alike; verdicts = verdicts_alike; acks = acks_alike; plain = plain_alike }
