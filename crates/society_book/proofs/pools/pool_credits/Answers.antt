use Rattle.std.proofs.Common.{◌≡◌, is_some}
use Rattle.society_core.specs.Book.{order_at}
use Rattle.society_book.specs.AnswersShown.{AreCredits}
use Rattle.society_book.specs.Shown.{ByBook}
use Rattle.society_book.proofs.lemmas.shown.CreditRows.{credits_found, shown_closed}
use Rattle.society_book.proofs.lemmas.shown.QuestionLemmas.{asked_then, by_book, then_asked}
use Rattle.society_book.proofs.pools.pool_credits.Goals as goal

pub returns : goal.returns
returns g c =
    let pool = c.args.pool in
    let closed = c.in_ok-closed.closed in
    record {
      asked =
          asked_then _ _ _ closed c.credits_in.result _ (ByBook (λ o b credits. closed ≡ is_some (order_at b pool) → AreCredits o b pool credits)) _ c.in_ok-closed.ensures.asked
          (then_asked _ _ _ c.credits_in.result _ _ c.in_ok-rows.ensures.asked
          (λ lists. by_book _ _ c.credits_in.result (λ o b holds. shown_closed o b pool closed _ c.credits_in.result (credits_found o b _ holds pool _ lists) (rw c.as_slice.ensures.value at c.credits_in.ensures))))
          (λ y is credits o b holds. credits o b holds (is o b holds));
    }
