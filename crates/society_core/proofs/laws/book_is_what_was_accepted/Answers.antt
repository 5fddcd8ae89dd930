use Rattle.society_core.proofs.lemmas.HeadlineLemmas.{holds_what_was_accepted}
use Rattle.society_core.proofs.laws.book_is_what_was_accepted.Goals as goal

pub returns : goal.returns
returns c = holds_what_was_accepted
