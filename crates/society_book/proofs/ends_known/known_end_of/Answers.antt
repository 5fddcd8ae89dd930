use Rattle.std.proofs.Common.{◌∙◌, Ok, ap, sym}
use Rattle.sender_segments.specs.Ways.{StatedEnds, end_stated}
use Rattle.society_core.specs.Answers.{end_known_with}
use Rattle.society_core.specs.Book.{front}
use Rattle.society_core.specs.Ends.{end_known_by, number_past, place_stated}
use Rattle.society_book.proofs.lemmas.shown.QuestionLemmas.{asked_then, then_asked}
use Rattle.society_book.proofs.ends_known.known_end_of.Goals as goal

pub returns-in-Absent : goal.returns-in-Absent
returns-in-Absent g c =
    let s = c.args.sender.now in
    let stated = c.args.end.now in
    let place = place_stated stated in
    record {
      asked =
          asked_then _ _ _ c.in_ok-stated.stated c.free_segment.result _ _ _ c.in_ok-stated.ensures.asked c.free_segment.ensures.asked
          (λ y reads found o book holds.
          found o book holds
          ∙ ap (end_known_with (front book s) (number_past book s place stated.last)) (sym c.in-Absent.is ∙ c.known_end.ensures ∙ ap (λ (ends : StatedEnds). end_known_by (end_stated stated) (ends place)) (reads book holds.kept.ends)));
    }

pub returns-in-Same : goal.returns-in-Same
returns-in-Same g c =
    let s = c.args.sender.now in
    let stated = c.args.end.now in
    let place = place_stated stated in
    record {
      asked =
          asked_then _ _ _ c.in_ok-stated.stated c.same_with_front.result _ _ _ c.in_ok-stated.ensures.asked c.same_with_front.ensures.asked
          (λ y reads found o book holds.
          found o book holds
          ∙ ap (end_known_with (front book s) (number_past book s place stated.last)) (sym c.in-Same.is ∙ c.known_end.ensures ∙ ap (λ (ends : StatedEnds). end_known_by (end_stated stated) (ends place)) (reads book holds.kept.ends)));
    }

pub returns : goal.returns
returns g c =
    let s = c.args.sender.now in
    let stated = c.args.end.now in
    let place = place_stated stated in
    record {
      asked =
          then_asked _ _ c.in_ok-stated.stated (Ok _) _ _ c.in_ok-stated.ensures.asked
          (λ reads o book holds.
          ap (end_known_with (front book s) (number_past book s place stated.last)) (sym c.in-Other.is ∙ c.known_end.ensures ∙ ap (λ (ends : StatedEnds). end_known_by (end_stated stated) (ends place)) (reads book holds.kept.ends)));
    }
