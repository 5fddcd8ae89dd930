use Rattle.std.proofs.Common.{◌∙◌, Ok, sym}
use Rattle.society_core.specs.Book.{order_at}
use Rattle.society_core.specs.declared.store.Known.TheVariants.{Absent}
use Rattle.society_book.proofs.lemmas.shown.OrderRows.{unknown_so}
use Rattle.society_book.proofs.lemmas.shown.QuestionLemmas.{then_asked}
use Rattle.society_book.proofs.orders.known_pool_of.Goals as goal

pub returns-in-None : goal.returns-in-None
returns-in-None g c =
    record {
      asked =
          then_asked _ _ c.in_ok-amount.field-0 (Ok Absent) _ _ c.in_ok-amount.ensures.asked
          (λ amount o b holds. unknown_so (order_at b c.args.pool) c.args.order.now (sym c.in-None.is ∙ amount o b holds));
    }
