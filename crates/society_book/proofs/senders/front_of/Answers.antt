use Rattle.std.proofs.Common.{◌≡◌, ◌<◌, ◌^◌, IfOk, List, Ok, Result, ℕ, refl, subst, sym}
use Rattle.sqlite_value.specs.Order.{Row}
use Rattle.society_core.specs.Book.{front}
use Rattle.society_rows.specs.declared.fault.RowFault.{RowFault}
use Rattle.society_book.proofs.lemmas.shown.FrontRows.{front_found, small_front}
use Rattle.society_book.specs.Shown.{ShowFront}
use Rattle.society_book.proofs.lemmas.shown.QuestionLemmas.{asked_shown}
use Rattle.society_book.proofs.senders.front_of.Goals as goal

-- the rows show a number of 32 bits
abbrev ShowSmall : ℕ → List Row → Type 0
ShowSmall n rows = (n < 2 ^ 32) × ShowFront n rows

ok_is : (r : Result ℕ RowFault) (n : ℕ) → r ≡ Ok n → IfOk r (λ x. x ≡ n)
ok_is r n is = subst (λ (z : Result ℕ RowFault). IfOk z (λ x. x ≡ n)) (sym is) refl

pub returns : goal.returns
returns g c =
    record {
      asked =
          asked_shown _ _ _ _ c.shown_front.result _ ShowSmall _ (λ _ b. front b c.args.sender.now) c.in_ok-rows.ensures.asked c.as_slice.ensures.value
          (λ n shows. ok_is c.shown_front.result n (c.shown_front.ensures.exact n shows.0 shows.1))
          (λ o b holds lists. (small_front b c.args.sender.now holds.sound, front_found o b _ holds c.args.sender.now _ lists));
    }
