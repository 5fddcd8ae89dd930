use Rattle.std.proofs.Common.{◌≡◌}
use Rattle.sender_segments.specs.Ways.{end_stated}
use Rattle.society_core.specs.Answers.{end_known}
use Rattle.society_core.specs.Ends.{place_stated}
use Rattle.society_tables.proofs.lemmas.StoreQuestions.{one_known_end, question_by, still_rests}
use Rattle.society_tables.proofs.tables.TablesStore.known_end.Goals as goal

pub invariant_of-self-clause-rests : goal.invariant_of-self-clause-rests
invariant_of-self-clause-rests g c = still_rests _ _ _ _ _ c.args.self.now.rests c.known_end_of-answer.ensures.asked

pub returns : goal.returns
returns g c =
    let stated = c.args.end.now in
    question_by (λ o b known. known ≡ end_known b c.args.sender.now (place_stated stated) (end_stated stated)) _ _ _ _ _ _ c.store_answer.result c.args.self.now.rests (rw (c.as_bytes.ensures.bytes) at c.known_end_of-answer.ensures.asked) (λ b known. one_known_end known _)
    (c.in_ok-counts_on.ensures.room) c.store_answer.ensures
