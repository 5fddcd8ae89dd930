use Rattle.std.proofs.Common.{◌∙◌, ap, map}
use Rattle.society_core.specs.Ends.{last_number_of}
use Rattle.society_book.specs.Columns.{whole_number_at}
use Rattle.society_book.proofs.lemmas.shown.NumberRows.{within_found}
use Rattle.society_book.proofs.lemmas.shown.QuestionLemmas.{then_asked}
use Rattle.society_book.proofs.lemmas.together.StepLemmas.{more}
use Rattle.society_book.proofs.numbers.last_within.Goals as goal

pub returns : goal.returns
returns g c = record {
  asked =
      then_asked _ _ _ c.last_number.result _ _ c.in_ok-rows.ensures.asked
      (λ keys. more c.last_number.result
      (λ number is book has. is ∙ ap last_number_of (ap (map (whole_number_at 1)) c.as_slice.ensures.value ∙ within_found book _ has c.args.sender.now c.args.above c.args.below _ keys))
      c.last_number.ensures);
}
