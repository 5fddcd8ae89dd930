use Rattle.std.proofs.Common.{◌≡◌}
use Rattle.society_core.specs.Answers.{return_known_as}
use Rattle.society_tables.proofs.lemmas.StoreQuestions.{one_known, question_by, still_rests}
use Rattle.society_tables.proofs.tables.TablesStore.known_return.Goals as goal

pub invariant_of-self-clause-rests : goal.invariant_of-self-clause-rests
invariant_of-self-clause-rests g c = still_rests _ _ _ _ _ c.args.self.now.rests c.known_return_of-answer.ensures.asked

pub returns : goal.returns
returns g c =
    question_by (λ o b known. known ≡ return_known_as b c.args.key.now c.args.body.now) _ _ _ _ _ _ c.store_answer.result c.args.self.now.rests c.known_return_of-answer.ensures.asked (λ b x. one_known x _) (c.in_ok-counts_on.ensures.room) c.store_answer.ensures
