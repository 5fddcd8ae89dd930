use Rattle.society_core.specs.Book.{return_at}
use Rattle.society_book.proofs.lemmas.rows_alike.KeyRows.{refilled_by, return_shows}
use Rattle.society_book.specs.Shown.{ShowBody}
use Rattle.society_book.proofs.lemmas.shown.QuestionLemmas.{asked_shown}
use Rattle.society_book.proofs.returns.known_return_of.Goals as goal

pub returns : goal.returns
returns g c =
    record {
      asked =
          asked_shown _ _ _ _ c.known_return_in.result _ ShowBody _ (λ _ b. return_at b c.args.key.now) c.in_ok-rows.ensures.asked c.as_slice.ensures.value c.known_return_in.ensures
          (λ o b holds lists. return_shows o b _ holds c.args.key.now (refilled_by c.args.key.now.reporter _ c.as_bytes.ensures.bytes c.as_bytes.ensures.back) _ (rw (c.as_bytes.ensures.bytes, c.value.ensures.value) at lists));
    }
