use Rattle.std.proofs.Common.{◌≤◌, ◌∙◌, ap, arith, sym}
use Rattle.sender_segments.specs.Ways.{numbers_up_to}
use Rattle.society_core.specs.Book.{is_one_of}
use Rattle.society_book.proofs.lemmas.shown.PlainFronts.{plain_line}
use Rattle.society_book.proofs.senders.plain_place.Goals as goal

pub returns-clause-applied : goal.returns-clause-applied
returns-clause-applied c = λ ends.
    let some : 1 ≤ c.value.result = omega arith in
    sym (plain_line ends c.args.reached c.value.result c.requires some) ∙ ap (is_one_of (numbers_up_to ends c.args.reached)) c.value.ensures.value
