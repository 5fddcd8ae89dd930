use Rattle.std.proofs.Common.{◌≡◌}
use Rattle.society_core.specs.Answers.{pool_known_as}
use Rattle.society_tables.proofs.lemmas.StoreQuestions.{one_known, question_by, still_rests}
use Rattle.society_tables.proofs.tables.TablesStore.known_pool.Goals as goal

pub invariant_of-self-clause-rests : goal.invariant_of-self-clause-rests
invariant_of-self-clause-rests g c = still_rests _ _ _ _ _ c.args.self.now.rests c.known_pool_of-answer.ensures.asked

pub returns : goal.returns
returns g c =
    question_by (λ o b known. known ≡ pool_known_as b c.args.pool c.args.order.now) _ _ _ _ _ _ c.store_answer.result c.args.self.now.rests
    (rw c.value.ensures.value at c.known_pool_of-answer.ensures.asked) (λ b x. one_known x _) (c.in_ok-counts_on.ensures.room) c.store_answer.ensures
