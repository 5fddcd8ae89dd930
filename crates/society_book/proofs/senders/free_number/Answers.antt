use Rattle.std.proofs.Common.{◌≡◌, ◌∙◌, Ok, ap, sym}
use Rattle.sender_segments.specs.Ways.{StatedEnds}
use Rattle.society_core.specs.Answers.{free_under}
use Rattle.society_core.specs.Ends.{last_below}
use Rattle.society_book.proofs.lemmas.shown.QuestionLemmas.{then_asked}
use Rattle.society_book.proofs.senders.free_number.Goals as goal
use Rattle.society_book.proofs.senders.free_number.Goals.{in-Some, in-None}
use Rattle.work_ids.specs.Segments.{segment_of, sequence_of}

pub returns : goal.returns
returns g c =
    let n = c.args.number in
    let told : c.match-ended_before.result ≡ free_under c.ended_before.result =
    elim c.match-ended_before.branch [ in-Some w ↦ w.result-is ∙ ap free_under (sym w.in-Some.is) | in-None w ↦ w.result-is ∙ ap free_under (sym w.in-None.is) ] in
    record {
      asked =
          then_asked _ _ c.in_ok-ends.ends (Ok _) _ _ c.in_ok-ends.ensures.asked
          (λ reads o book holds. told ∙ ap free_under (c.ended_before.ensures ∙ ap (λ (ends : StatedEnds). last_below (sequence_of n) (ends (segment_of n))) (reads book holds.kept.ends)));
    }
