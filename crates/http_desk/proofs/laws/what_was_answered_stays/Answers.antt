use Rattle.http_desk.proofs.lemmas.AnsweredLemmas.{answered_through}
use Rattle.http_desk.proofs.laws.what_was_answered_stays.Goals as goal

pub returns : goal.returns
returns g c = answered_through g.S.Store.state g.met.S.Store.laws
