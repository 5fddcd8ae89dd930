use Rattle.society_core.specs.Answers.{payer}
use Rattle.society_book.proofs.lemmas.rows_alike.KeyRows.{refilled_by}
use Rattle.society_book.proofs.lemmas.shown.PaidRows.{payer_found}
use Rattle.society_book.specs.Shown.{ShowPayer}
use Rattle.society_book.proofs.lemmas.shown.QuestionLemmas.{asked_shown}
use Rattle.society_book.proofs.returns.payer_of.Goals as goal

pub returns : goal.returns
returns g c =
    record {
      asked =
          asked_shown _ _ _ _ c.shown_payer.result _ ShowPayer _ (λ _ b. payer b c.args.key.now) c.in_ok-rows.ensures.asked c.as_slice.ensures.value c.shown_payer.ensures
          (λ o b holds lists. payer_found o b _ holds c.args.key.now (refilled_by c.args.key.now.reporter _ c.as_bytes.ensures.bytes c.as_bytes.ensures.back) _ (rw (c.as_bytes.ensures.bytes, c.value.ensures.value) at lists));
    }
