use Rattle.std.proofs.Common.{rules, ◌≡◌, ◌∙◌, ℕ, None, Ok, Option, Some, Vec, Global, ap, option_map, refl, sym}
use Rattle.share_rules.specs.declared.office.Office.{Office}
use Rattle.pool_split.specs.declared.claim.Credit.{Credit}
use Rattle.society_core.specs.Answers.{showing}
use Rattle.society_core.specs.Book.{Book, order_at}
use Rattle.society_core.specs.Pools.{credits_of}
use Rattle.society_core.specs.Requests.{Credited, showing_of}
use Rattle.society_core.specs.declared.inquiry.Showing.{Showing}
use Rattle.society_book.specs.AnswersShown.{AreCredits}
use Rattle.society_book.specs.Items.{items_of}
use Rattle.society_book.proofs.lemmas.shown.QuestionLemmas.{then_asked}
use Rattle.society_book.proofs.showings.show.Goals as goal

-- what is made of what is there, in two steps and in one
in_two_steps : {X Y Z : Type 0} (f : X → Y) (h : Y → Z) (x : Option X) → option_map h (option_map f x) ≡ option_map (λ y. h (f y)) x
in_two_steps f h None = refl
in_two_steps f h (Some x) = refl

credits_shown : (o : Office) (b : Book) (pool : ℕ) (credits : Option (Vec Credit Global)) (shown : Option Showing)
    → option_map showing_of shown ≡ option_map Credited (items_of credits) → AreCredits o b pool credits → option_map showing_of shown ≡ option_map (λ order. Credited (credits_of o b order)) (order_at b pool)
credits_shown o b pool credits shown same found = same ∙ ap (option_map Credited) found ∙ in_two_steps (credits_of o b) Credited (order_at b pool)

pub returns-in_ok-credits-in-Credits : goal.returns-in_ok-credits-in-Credits
returns-in_ok-credits-in-Credits g c = record {
  asked = then_asked _ _ c.in_ok-credits-in-Credits.credits (Ok c.map-in-Credits.result) _ _ (rw c.value.ensures.value at c.in_ok-credits-in-Credits.ensures.asked)
      (λ found b holds.
      credits_shown c.args.office.now b _ c.in_ok-credits-in-Credits.credits c.map-in-Credits.result (search rules) (found c.args.office.now b holds) ∙ ap (showing c.args.office.now b) (sym c.in-Credits.is));
}
