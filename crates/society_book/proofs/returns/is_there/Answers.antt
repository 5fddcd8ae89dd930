use Rattle.society_core.specs.Book.{return_at}
use Rattle.society_book.proofs.lemmas.rows_alike.KeyRows.{refilled_by, return_key_shows}
use Rattle.society_book.specs.Shown.{ShowKey}
use Rattle.society_book.proofs.lemmas.shown.QuestionLemmas.{asked_shown}
use Rattle.society_book.proofs.returns.is_there.Goals as goal

pub returns : goal.returns
returns g c =
    record {
      asked =
          asked_shown _ _ _ _ c.shown_there.result _ ShowKey _ (λ _ b. return_at b c.args.key.now) c.in_ok-rows.ensures.asked c.as_slice.ensures.value c.shown_there.ensures
          (λ o b holds lists. return_key_shows o b _ holds c.args.key.now (refilled_by c.args.key.now.reporter _ c.as_bytes.ensures.bytes c.as_bytes.ensures.back) _ (rw (c.as_bytes.ensures.bytes, c.value.ensures.value) at lists));
    }
