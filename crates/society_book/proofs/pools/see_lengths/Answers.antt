use Rattle.society_book.proofs.lemmas.shown.AccountTexts.{eleven_long, nine_long}
use Rattle.society_book.proofs.pools.see_lengths.Goals as goal

pub returns-in-Party : goal.returns-in-Party
returns-in-Party c = rw c.in-Party.is (eleven_long c.in-Party.sender c.as_bytes-sender.ensures.key, nine_long c.in-Party.number c.as_bytes-number.ensures.number)
