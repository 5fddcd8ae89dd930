use Rattle.std.proofs.Common.{◌∙◌, ◌++◌, [], List, ℕ, Ok, ap₂, arith}
use Rattle.society_core.specs.Book.{front}
use Rattle.society_book.specs.Standing.{numbers_above}
use Rattle.society_book.proofs.lemmas.shown.HeldNumbers.{held_is}
use Rattle.society_book.proofs.lemmas.shown.PlainFronts.{plain_lists}
use Rattle.society_book.proofs.lemmas.shown.QuestionLemmas.{then_asked}
use Rattle.society_book.proofs.standing.held_above.Goals as goal

pub returns : goal.returns
returns g c =
    let s = c.args.sender.now in
    record {
      asked =
          then_asked _ _ tt (Ok c.append_above.new.list) _ _ c.in_ok-append_above.ensures.asked
          (λ above o book holds at.
          above book holds.kept.transmissions
          ∙ ap₂ (λ (ns : List ℕ) (k : ℕ). ns ++ numbers_above book s k) c.new-list.ensures.items at
          ∙ held_is book s holds.sound [] (plain_lists book s (front book s) (omega (arith, c.requires, at))));
    }
