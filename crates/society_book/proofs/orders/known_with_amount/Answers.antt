use Rattle.std.proofs.Common.{◌≡◌, ◌∙◌, Some}
use Rattle.society_core.specs.Answers.{pool_known_as}
use Rattle.society_core.specs.Book.{order_at}
use Rattle.society_book.specs.OrderShown.{IsAmount, IsCutOf, IsKindOf}
use Rattle.society_book.specs.Shown.{ByBook}
use Rattle.society_book.proofs.lemmas.shown.OrderRows.{if_ok_as, known_so}
use Rattle.society_book.proofs.lemmas.shown.QuestionLemmas.{asked_then, by_book, then_asked}
use Rattle.society_book.proofs.orders.known_with_amount.Goals as goal

pub returns : goal.returns
returns g c =
    let pool = c.args.pool in
    let amount = c.args.amount in
    let order = c.args.order.now in
    let kind = c.in_ok-kind.kind in
    let cut = c.in_ok-cut.cut.items in
    record {
      asked =
          asked_then _ _ _ kind c.known_order.result _ (ByBook (λ _ b known. IsKindOf pool b kind → IsAmount pool b (Some amount) → known ≡ pool_known_as b pool order)) _ c.in_ok-kind.ensures.asked
          (asked_then _ _ _ c.in_ok-cut.cut c.known_order.result _ (ByBook (λ _ b known. IsCutOf pool b cut → IsKindOf pool b kind → IsAmount pool b (Some amount) → known ≡ pool_known_as b pool order)) _ c.in_ok-cut.ensures.asked
          (then_asked _ _ _ c.known_order.result _ _ c.in_ok-returns.ensures.asked
          (λ returns. by_book _ _ c.known_order.result (λ o b holds. if_ok_as c.known_order.result _ _
          (λ known is of_cut of_kind of_amount. is ∙ known_so (order_at b pool) (Some amount) kind cut _ order of_amount of_kind of_cut (returns o b holds))
          (rw (c.as_slice.ensures.value, c.as_slice-2.ensures.value) at c.known_order.ensures))))
          (λ y of_cut known o b holds. known o b holds (of_cut o b holds)))
          (λ y of_kind known o b holds. known o b holds (of_kind o b holds));
    }
