use Rattle.std.proofs.Common.{◌≡◌}
use Rattle.society_core.specs.Answers.{payment_in}
use Rattle.society_tables.proofs.lemmas.StoreQuestions.{one_payment, question_by, still_rests}
use Rattle.society_tables.proofs.tables.TablesStore.payment.Goals as goal

pub invariant_of-self-clause-rests : goal.invariant_of-self-clause-rests
invariant_of-self-clause-rests g c = still_rests _ _ _ _ _ c.args.self.now.rests c.payment_of-answer.ensures.asked

pub returns : goal.returns
returns g c =
    question_by (λ o b payment. payment ≡ payment_in b c.args.key.now) _ _ _ _ _ _ c.store_answer.result c.args.self.now.rests c.payment_of-answer.ensures.asked (λ b x. one_payment x _) (c.in_ok-counts_on.ensures.room) c.store_answer.ensures
