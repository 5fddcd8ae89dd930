use Rattle.std.specs.List.{sum_by}
use Rattle.pool_split.specs.Credits.{units_of}
use Rattle.society_book.specs.DerivedRows.{credits_to}
use Rattle.society_book.proofs.lemmas.shown.AccountRows.{balance_found}
use Rattle.society_book.specs.Shown.{ShowUnits}
use Rattle.society_book.proofs.lemmas.shown.QuestionLemmas.{asked_shown}
use Rattle.society_book.proofs.pools.units_under.Goals as goal

pub returns : goal.returns
returns g c =
    record {
      asked =
          asked_shown _ _ _ _ c.shown_units.result _ ShowUnits _ (λ o b. sum_by units_of (credits_to o b c.args.account.now)) c.in_ok-rows.ensures.asked c.as_slice.ensures.value c.shown_units.ensures
          (λ o b holds lists. balance_found o b _ holds c.args.account.now _ lists);
    }
