use Rattle.log_reading.proofs.Lemmas.{salts_decide}
use Rattle.log_reading.proofs.words.has_salts.Goals as goal

pub returns : goal.returns
returns c = salts_decide _ _ _ _ c.eq.ensures
