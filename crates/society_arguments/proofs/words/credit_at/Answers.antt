use Rattle.std.proofs.Common.{refl}
use Rattle.society_arguments.specs.Words.{AsksCredit}
use Rattle.society_arguments.specs.declared.words.Words.TheVariants as words
use Rattle.society_arguments.proofs.lemmas.WordLemmas.{at_named, at_none}
use Rattle.society_arguments.proofs.words.credit_at.Goals as goal

pub returns-in-Replay : goal.returns-in-Replay
returns-in-Replay c = λ a reads.
    at_named (AsksCredit c.args.path.now) (words.Credit c.args.path c.in-Replay.office) c.in-Replay.office (λ society territory name is. (refl, is)) a (rw c.in-Replay.is at reads)

pub returns-in_default : goal.returns-in_default
returns-in_default c = λ a reads. at_none (AsksCredit c.args.path.now) c.args.words a (λ office is. c.in_default.not-Replay office is) reads
