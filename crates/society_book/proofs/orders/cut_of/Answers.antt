use Rattle.society_book.proofs.lemmas.shown.OrderRows.{cut_found, if_ok_as}
use Rattle.society_book.proofs.lemmas.shown.QuestionLemmas.{by_book, then_asked}
use Rattle.society_book.proofs.orders.cut_of.Goals as goal

pub returns : goal.returns
returns g c =
    record {
      asked =
          then_asked _ _ _ c.cuts_in.result _ _ c.in_ok-rows.ensures.asked
          (λ lists. by_book _ _ c.cuts_in.result (λ o b holds. if_ok_as c.cuts_in.result _ _ (λ list are. cut_found o b _ holds c.args.pool _ lists _ are) (rw c.as_slice.ensures.value at c.cuts_in.ensures)));
    }
