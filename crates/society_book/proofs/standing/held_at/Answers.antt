use Rattle.std.proofs.Common.{◌≡◌, ◌∙◌, ◌++◌, ℕ, Ok, ap, subst}
use Rattle.society_core.specs.Book.{front, held}
use Rattle.society_book.specs.Shown.{ByBook}
use Rattle.society_book.specs.Standing.{ListsSkipped, numbers_above}
use Rattle.society_book.proofs.lemmas.shown.HeldNumbers.{held_is}
use Rattle.society_book.proofs.lemmas.shown.QuestionLemmas.{asked_then, then_asked}
use Rattle.society_book.proofs.standing.held_at.Goals as goal

pub returns : goal.returns
returns g c =
    let s = c.args.sender.now in
    let list = c.in_ok-list.list.items in
    let new = c.append_above.new.list in
    record {
      asked =
          then_asked _ _ tt (Ok new) (λ db _. ByBook {T = Unit {0}} (λ _ book _. c.args.reached ≡ front book s → new.items ≡ held book s) db tt) _
          (asked_then _ _ _ c.in_ok-list.list (Ok tt) _ _ (λ db _. ByBook {T = Unit {0}} (λ _ book _. c.args.reached ≡ front book s → new.items ≡ held book s) db tt) c.in_ok-list.ensures.asked c.in_ok-append_above.ensures.asked
          (λ y lists above o book holds at.
          above book holds.kept.transmissions
          ∙ ap (λ (k : ℕ). list ++ numbers_above book s k) at
          ∙ held_is book s holds.sound list (subst (λ (k : ℕ). ListsSkipped book s k list) at (lists o book holds at))))
          (λ is. is);
    }
