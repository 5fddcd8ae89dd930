use Rattle.society_core.proofs.lemmas.HeadlineLemmas.{run_came, run_keeps}
use Rattle.society_core.proofs.lemmas.Statements.{other_end_reused}
use Rattle.society_core.proofs.laws.what_is_accepted_stays.Goals as goal

pub returns-clause-stays : goal.returns-clause-stays
returns-clause-stays c = run_keeps

pub returns-clause-came : goal.returns-clause-came
returns-clause-came c = run_came

pub returns-clause-ends : goal.returns-clause-ends
returns-clause-ends c = other_end_reused
