use Rattle.std.proofs.Common.{ap₂, sym, ◌∙◌}
use Rattle.works_core.specs.Versions.{next_verdict}
use Rattle.works_core.proofs.lemmas.NextLemmas.{next_is}
use Rattle.works_core.proofs.verdict.next_verdict.Goals as goal

pub returns-clause-verdict : goal.returns-clause-verdict
returns-clause-verdict c = λ past last works. c.told_by.ensures ∙ ap₂ (next_verdict c.args.judged.now) last works ∙ sym (next_is past c.args.judged.now)
