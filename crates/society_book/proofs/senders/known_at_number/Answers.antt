use Rattle.society_core.specs.Book.{body_at}
use Rattle.society_core.specs.Keys.{transmission_key}
use Rattle.society_book.proofs.lemmas.rows_alike.KeyRows.{transmission_shows}
use Rattle.society_book.specs.Shown.{ShowBody}
use Rattle.society_book.proofs.lemmas.shown.QuestionLemmas.{asked_shown}
use Rattle.society_book.proofs.senders.known_at_number.Goals as goal

pub returns : goal.returns
returns g c =
    record {
      asked =
          asked_shown _ _ _ _ c.known_transmission_in.result _ ShowBody _ (λ _ b. body_at b c.args.sender.now c.args.number) c.in_ok-rows.ensures.asked c.as_slice.ensures.value c.known_transmission_in.ensures
          (λ o b holds lists. transmission_shows o b _ holds (transmission_key c.args.sender.now c.args.number) _ lists);
    }
