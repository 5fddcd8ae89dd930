use Rattle.society_core.specs.Book.{front, version_in}
use Rattle.society_book.proofs.lemmas.lines.LineRows.{back_by, version_shows}
use Rattle.society_book.specs.Shown.{ShowVersion}
use Rattle.society_book.proofs.lemmas.shown.QuestionLemmas.{asked_shown}
use Rattle.society_book.proofs.works.version_at_front.Goals as goal

pub returns : goal.returns
returns g c =
    let s = c.args.sender.now in
    let w = c.args.work.now in
    record {
      asked =
          asked_shown _ _ _ _ c.last_version.result _ ShowVersion _ (λ o b. version_in o b s w (front b s)) (rw (c.as_bytes.ensures.bytes, c.as_bytes-2.ensures.bytes) at c.in_ok-rows.ensures.asked) c.as_slice.ensures.value c.last_version.ensures
          (λ o b holds first. version_shows o b _ holds s w (back_by w c.as_bytes-2.result.now c.as_bytes-2.ensures.bytes c.as_bytes-2.ensures.back) _ first);
    }
