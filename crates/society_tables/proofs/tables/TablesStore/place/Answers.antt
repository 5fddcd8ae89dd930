use Rattle.std.proofs.Common.{◌≡◌}
use Rattle.society_core.specs.Answers.{place_in_book}
use Rattle.society_tables.proofs.lemmas.StoreQuestions.{one_place, question_by, still_rests}
use Rattle.society_tables.proofs.tables.TablesStore.place.Goals as goal

pub invariant_of-self-clause-rests : goal.invariant_of-self-clause-rests
invariant_of-self-clause-rests g c = still_rests _ _ _ _ _ c.args.self.now.rests c.place_of-answer.ensures.asked

pub returns : goal.returns
returns g c = record {
  question = question_by (λ o b place. place ≡ place_in_book b c.args.sender.now c.args.number) _ _ _ _ _ _ c.store_answer.result c.args.self.now.rests (rw (c.as_bytes.ensures.bytes) at c.place_of-answer.ensures.asked) (λ b place. one_place place _)
      (c.in_ok-counts_on.ensures.room) c.store_answer.ensures;
}
