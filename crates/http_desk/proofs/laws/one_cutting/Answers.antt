use Rattle.http_text.proofs.lemmas.CuttingLemmas.{one_reading}
use Rattle.http_desk.proofs.laws.one_cutting.Goals as goal

pub returns : goal.returns
returns c = one_reading
