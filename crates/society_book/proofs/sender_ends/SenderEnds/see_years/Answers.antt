use Rattle.society_book.proofs.lemmas.rows_alike.EndRows.{listed_right, listed_years}
use Rattle.society_book.proofs.sender_ends.SenderEnds.see_years.Goals as goal

pub returns-clause-right : goal.returns-clause-right
returns-clause-right c = rw (← c.self.view_is) (listed_right _ c.self.invariant)

pub returns-clause-years : goal.returns-clause-years
returns-clause-years c = rw (← c.self.view_is) (listed_years _ c.self.invariant)
