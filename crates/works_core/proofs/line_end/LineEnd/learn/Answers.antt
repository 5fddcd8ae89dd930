use Rattle.std.proofs.Common.{sym, ◌∙◌}
use Rattle.works_core.proofs.lemmas.EndLemmas.{learns, learns-none}
use Rattle.works_core.proofs.line_end.LineEnd.learn.Goals as goal

pub returns-in_ok-keep : goal.returns-in_ok-keep
returns-in_ok-keep c = λ known past at is.
    learns known past c.args.self.now _ c.args.work c.in-Some.version at (sym c.in-Some.is ∙ is) c.keep.ensures.works c.in_ok-keep.ensures.last

pub returns-in_default : goal.returns-in_default
returns-in_default c = λ known past at is.
    learns-none known past c.args.self.now c.args.work at (sym c.in_default.is ∙ is)
