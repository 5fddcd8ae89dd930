use Rattle.society_core.proofs.lemmas.HeadlineLemmas.{holds_what_came, one_of_unstated}
use Rattle.society_core.proofs.laws.book_holds_what_came.Goals as goal

pub returns : goal.returns
returns c = record { came = holds_what_came; unstated = one_of_unstated }
