use Rattle.std.proofs.Common.{◌≡◌, Ok}
use Rattle.society_core.specs.Book.{front}
use Rattle.society_book.specs.AnswersShown.{IsStanding}
use Rattle.society_book.specs.Shown.{ByBook}
use Rattle.society_book.proofs.lemmas.shown.QuestionLemmas.{asked_then, then_asked}
use Rattle.society_book.proofs.standing.status_of.Goals as goal

pub returns : goal.returns
returns g c =
    let s = c.args.sender.now in
    let reached = c.in_ok-front.front in
    record {
      asked =
          asked_then _ _ _ reached (Ok _) _ (ByBook (λ _ b status. reached ≡ front b s → IsStanding b s status)) _ c.in_ok-front.ensures.asked
          (then_asked _ _ c.in_ok-held.held (Ok _) _ _ c.in_ok-held.ensures.asked (λ held o b holds at. (at, held o b holds at)))
          (λ y at is o b holds. is o b holds (at o b holds));
    }
