use Rattle.std.proofs.Common.{◌≡◌, ◌∙◌, ◌+◌, ℕ, ap, ap₂}
use Rattle.society_core.specs.Ends.{last_number_of, place_stated}
use Rattle.society_book.specs.Standing.{numbers_within}
use Rattle.society_book.proofs.lemmas.shown.HeldNumbers.{past_found}
use Rattle.society_book.proofs.lemmas.shown.QuestionLemmas.{as_asked}
use Rattle.society_book.proofs.ends_known.number_past_of.Goals as goal
use Rattle.work_ids.specs.Segments.{base_of, index_of, most_in}
use Rattle.work_ids.specs.declared.segment.Segment.{Segment}

pub returns : goal.returns
returns g c =
    let s = c.args.sender.now in
    let last = c.args.end.now.last in
    let place = place_stated c.args.end.now in
    let before : c.rank_before-before.result ≡ base_of place = c.rank_before-before.ensures ∙ ap (λ (x : Segment). base_of (index_of x)) c.segment.ensures in
    let low : c.rank_before-before.result + c.last.result ≡ base_of place + last = ap₂ (λ (a b : ℕ). a + b) before c.last.ensures.value in
    let high : (c.rank_before-before.result + c.greatest.result) + 1 ≡ (base_of place + most_in place) + 1 =
    ap₂ (λ (a b : ℕ). (a + b) + 1) before (c.greatest.ensures ∙ ap (λ (x : Segment). most_in (index_of x)) c.segment-2.ensures) in
    record {
      asked =
          as_asked _ _ c.last_within.result _ _ c.last_within.ensures.asked
          (λ number found book has. found book has ∙ ap₂ (λ (a b : ℕ). last_number_of (numbers_within book s a b)) low high ∙ past_found book s place last);
    }
