use Rattle.std.proofs.Common.{◌∙◌, ap, cond}
use Rattle.society_core.specs.Answers.{paid_by, payer}
use Rattle.society_core.specs.Book.{return_at}
use Rattle.society_core.specs.declared.store.Payment.TheVariants.{Unknown}
use Rattle.society_book.proofs.lemmas.shown.PaidRows.{payment_is}
use Rattle.society_book.proofs.lemmas.shown.QuestionLemmas.{asked_then}
use Rattle.society_book.proofs.returns.payment_of.Goals as goal

pub returns : goal.returns
returns g c =
    record {
      asked =
          asked_then _ _ _ _ c.payment_with.result _ _ _ c.in_ok-there.ensures.asked c.payment_with.ensures.asked
          (λ y there found o b holds. found o b holds ∙ ap (λ x. cond x (paid_by (payer b c.args.key.now)) Unknown) (there o b holds) ∙ payment_is (return_at b c.args.key.now) (payer b c.args.key.now));
    }
