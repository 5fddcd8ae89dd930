use Rattle.http_desk.proofs.lemmas.UpcomingLemmas.{whole_part}
use Rattle.http_desk.proofs.upcoming.upcoming_in.Goals as goal

pub returns-else-bytes-head : goal.returns-else-bytes-head
returns-else-bytes-head c = λ society known. whole_part _ _ c.in-Whole.ensures c.if-bytes-head.false
