use Rattle.std.proofs.Common.{◌∙◌, ap}
use Rattle.society_book.specs.EndLists.{end_shown}
use Rattle.society_book.proofs.lemmas.rows_alike.EndRows.{ends_found}
use Rattle.society_book.proofs.lemmas.shown.QuestionLemmas.{then_asked}
use Rattle.society_book.proofs.lemmas.together.StepLemmas.{more}
use Rattle.society_book.proofs.ends_read.ends_of.Goals as goal

pub returns : goal.returns
returns g c = record {
  asked =
      then_asked _ _ _ c.ends_shown.result _ _ c.in_ok-rows.ensures.asked
      (λ lists. more c.ends_shown.result (λ ends is book has. is ∙ ap end_shown c.as_slice.ensures.value ∙ ends_found book _ has c.args.sender.now _ lists) c.ends_shown.ensures.shows);
}
