use Rattle.http_desk.proofs.reply.put_end.Goals as goal

pub returns-in-Busy-clause-gathers : goal.returns-in-Busy-clause-gathers
returns-in-Busy-clause-gathers g c = rw c.in-Busy.is c.put_answer-in-Busy.ensures.gathers

pub returns-in-TooLarge-clause-gathers : goal.returns-in-TooLarge-clause-gathers
returns-in-TooLarge-clause-gathers g c = rw c.in-TooLarge.is c.put_answer-in-TooLarge.ensures.gathers
