use Rattle.society_book.proofs.lemmas.shown.OrderRows.{if_ok_as, returns_found}
use Rattle.society_book.proofs.lemmas.shown.QuestionLemmas.{by_book, then_asked}
use Rattle.society_book.proofs.orders.returns_of.Goals as goal

pub returns : goal.returns
returns g c =
    record {
      asked =
          then_asked _ _ _ c.returns_in.result _ _ c.in_ok-rows.ensures.asked
          (λ lists. by_book _ _ c.returns_in.result (λ o b holds. if_ok_as c.returns_in.result _ _ (λ list are. returns_found o b _ holds c.args.pool _ lists _ are) (rw c.as_slice.ensures.value at c.returns_in.ensures)));
    }
