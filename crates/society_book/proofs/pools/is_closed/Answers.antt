use Rattle.society_core.specs.Book.{order_at}
use Rattle.society_book.proofs.lemmas.shown.CreditRows.{pool_found}
use Rattle.society_book.specs.Shown.{ShowPool}
use Rattle.society_book.proofs.lemmas.shown.QuestionLemmas.{asked_shown}
use Rattle.society_book.proofs.pools.is_closed.Goals as goal

pub returns : goal.returns
returns g c =
    record {
      asked =
          asked_shown _ _ _ _ c.shown_closed.result _ ShowPool _ (λ _ b. order_at b c.args.pool) c.in_ok-rows.ensures.asked c.as_slice.ensures.value c.shown_closed.ensures
          (λ o b holds lists. pool_found o b _ holds c.args.pool _ lists);
    }
