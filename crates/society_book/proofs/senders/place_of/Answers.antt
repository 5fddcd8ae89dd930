use Rattle.std.proofs.Common.{◌∙◌, ℕ, Ok, ap, ap₂, sym}
use Rattle.sender_segments.specs.Ways.{numbers_up_to}
use Rattle.society_core.proofs.lemmas.LineNumbers.{in_line_is}
use Rattle.society_core.specs.Answers.{place_by}
use Rattle.society_core.specs.Book.{ends_of, is_one_of}
use Rattle.society_book.proofs.lemmas.shown.QuestionLemmas.{then_asked}
use Rattle.society_book.proofs.senders.place_of.Goals as goal

pub returns-then-reached-greatest : goal.returns-then-reached-greatest
returns-then-reached-greatest g c =
    let s = c.args.sender.now in
    let n = c.args.number in
    record {
      asked =
          then_asked _ _ c.in_ok-reached.reached (Ok _) _ _ c.in_ok-reached.ensures.asked
          (λ told o book holds.
          let at = told o book holds in
          ap₂ place_by (c.plain_place.ensures.front ∙ at)
          (c.plain_place.ensures.applied (ends_of book s) ∙ ap (λ (k : ℕ). is_one_of (numbers_up_to (ends_of book s) k) n) at ∙ sym (in_line_is book s n)));
    }
