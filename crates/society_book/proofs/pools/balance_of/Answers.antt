use Rattle.std.proofs.Common.{◌∙◌, ap}
use Rattle.std.specs.List.{sum_by}
use Rattle.pool_split.specs.Credits.{units_of}
use Rattle.society_book.specs.DerivedRows.{credits_to}
use Rattle.society_book.proofs.lemmas.shown.AccountTexts.{units_by_text}
use Rattle.society_book.proofs.lemmas.shown.QuestionLemmas.{as_asked}
use Rattle.society_book.proofs.pools.balance_of.Goals as goal

pub returns : goal.returns
returns g c =
    record {
      asked =
          as_asked _ _ c.units_under.result _ _ c.units_under.ensures.asked
          (λ units found o b holds. found o b holds ∙ ap (λ text. sum_by units_of (credits_to o b text)) (c.as_slice.ensures.value ∙ c.in_ok-text.ensures) ∙ units_by_text o b holds.sound c.args.account.now c.see_lengths.ensures);
    }
