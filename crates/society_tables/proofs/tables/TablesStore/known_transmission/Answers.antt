use Rattle.std.proofs.Common.{◌≡◌}
use Rattle.society_core.specs.Answers.{transmission_known}
use Rattle.society_tables.proofs.lemmas.StoreQuestions.{one_known_transmission, question_by, still_rests}
use Rattle.society_tables.proofs.tables.TablesStore.known_transmission.Goals as goal

pub invariant_of-self-clause-rests : goal.invariant_of-self-clause-rests
invariant_of-self-clause-rests g c = still_rests _ _ _ _ _ c.args.self.now.rests c.known_of-answer.ensures.asked

pub returns : goal.returns
returns g c = record {
  question = question_by (λ o b known. known ≡ transmission_known b c.args.sender.now c.args.number c.args.body.now) _ _ _ _ _ _ c.store_answer.result c.args.self.now.rests
      (rw (c.as_bytes.ensures.bytes) at c.known_of-answer.ensures.asked) (λ b x. one_known_transmission x _) (c.in_ok-counts_on.ensures.room) c.store_answer.ensures;
}
