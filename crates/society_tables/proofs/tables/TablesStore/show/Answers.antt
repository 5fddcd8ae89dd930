use Rattle.society_core.specs.Asked.{IsShownTo}
use Rattle.society_tables.proofs.lemmas.StoreQuestions.{one_showing, question_own, still_rests}
use Rattle.society_tables.proofs.tables.TablesStore.show.Goals as goal

pub invariant_of-self-clause-rests : goal.invariant_of-self-clause-rests
invariant_of-self-clause-rests g c = still_rests _ _ _ _ _ c.args.self.now.rests c.show-answer.ensures.asked

pub returns : goal.returns
returns g c =
    question_own c.args.self.now.office (λ b shown. IsShownTo c.args.self.now.office b c.args.inquiry.now shown) _ _ _ _ _ c.store_answer.result c.args.self.now.rests
    c.show-answer.ensures.asked (λ b shown. one_showing _ _) (c.in_ok-counts_on.ensures.room) c.store_answer.ensures
