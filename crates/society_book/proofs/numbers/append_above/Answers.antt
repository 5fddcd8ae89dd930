use Rattle.std.proofs.Common.{◌∙◌, ◌++◌, ℕ, List, ap, map}
use Rattle.society_book.specs.Columns.{whole_number_at}
use Rattle.society_book.proofs.lemmas.shown.NumberRows.{above_found, where_well}
use Rattle.society_book.proofs.lemmas.shown.QuestionLemmas.{then_asked}
use Rattle.society_book.proofs.numbers.append_above.Goals as goal

pub returns : goal.returns
returns g c = record {
  asked =
      then_asked _ _ _ c.append_numbers.result _ _ c.in_ok-rows.ensures.asked
      (λ keys. where_well c.append_numbers.result c.append_numbers.ensures
      (λ is book has. is ∙ ap (λ (ns : List ℕ). c.args.list.now.items ++ ns) (ap (map (whole_number_at 1)) c.as_slice.ensures.value ∙ above_found book _ has c.args.sender.now c.args.above _ keys)));
}
