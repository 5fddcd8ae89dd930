use Rattle.std.proofs.Common.{Some}
use Rattle.works_core.proofs.lemmas.EntryLemmas.{changed}
use Rattle.works_core.proofs.line_end.LineEnd.keep.Goals as goal

pub returns-clause-last : goal.returns-clause-last
returns-clause-last c = λ other. changed c.args.work c.args.self.now.last c.insert.new.self (Some c.args.version) c.in_ok-insert.ensures.updates other
