use Rattle.std.proofs.Common.{◌∙◌, Ok, ap}
use Rattle.society_book.specs.BookRows.{kind_marked}
use Rattle.society_book.specs.OrderShown.{IsKindOf}
use Rattle.society_book.proofs.lemmas.shown.OrderRows.{kind_found}
use Rattle.society_book.proofs.lemmas.shown.QuestionLemmas.{by_book, then_asked}
use Rattle.society_book.proofs.orders.kind_of.Goals as goal

pub returns : goal.returns
returns g c =
    record {
      asked =
          then_asked _ _ _ (Ok c.marked_kind.result) _ _ c.in_ok-marks.ensures.asked
          (λ lists. by_book (λ _ book kind. IsKindOf c.args.pool book kind) _ (Ok c.marked_kind.result) (λ o b holds order there.
          c.marked_kind.ensures ∙ ap kind_marked c.as_slice.ensures.value ∙ kind_found o b _ holds c.args.pool _ lists order there));
    }
