use Rattle.std.proofs.Common.{sym, ◌∙◌}
use Rattle.cwr_files.proofs.lemmas.Behind.{fault-behind, step-behind}
use Rattle.cwr_files.proofs.counts.step.Goals as goal

pub returns-in-Some-clause-behind : goal.returns-in-Some-clause-behind
returns-in-Some-clause-behind c = λ past e.
    sym (fault-behind c.args.sender.now past c.args.end c.args.line.now) ∙ rw (← e) (sym c.counted_fault.ensures ∙ c.in-Some.is)

pub returns-in-None-clause-behind : goal.returns-in-None-clause-behind
returns-in-None-clause-behind c = λ past e.
    step-behind c.args.sender.now past c.args.end c.args.line.now c.args.counts.now c.counts_after.result e (sym c.counted_fault.ensures ∙ c.in-None.is) c.counts_after.ensures
