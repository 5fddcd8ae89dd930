use Rattle.std.proofs.Common.{refl}
use Rattle.http_desk.specs.Counted.{inner_of}
use Rattle.http_text.specs.Reads.{Awaits}
use Rattle.http_desk.proofs.lemmas.UpcomingLemmas.{ReadsOn-same, upcoming_head}
use Rattle.http_desk.proofs.upcoming.next_answered.Goals as goal

pub returns-in_default-flush-clause-reads : goal.returns-in_default-flush-clause-reads
returns-in_default-flush-clause-reads g c = ReadsOn-same Awaits _ _ _ _ _ _ refl refl c.args.reader.now.reads_fit

pub returns-in-Some-clause-reads : goal.returns-in-Some-clause-reads
returns-in-Some-clause-reads g c = ReadsOn-same Awaits _ _ _ _ _ _ refl refl c.args.reader.now.reads_fit

pub returns-in-Some-clause-next : goal.returns-in-Some-clause-next
returns-in-Some-clause-next g c = λ society. upcoming_head society _ _ _ (rw c.unread.ensures at (c.in-Some.ensures society (g.R.Read.remaining (inner_of c.args.reader.now))))
