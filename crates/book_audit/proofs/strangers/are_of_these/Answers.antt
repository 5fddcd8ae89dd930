use Rattle.std.proofs.Common.{◌≡◌, ◌&&◌, ◌∙◌, ◌∷◌, [], Bool, List, ap₂, refl, rules, sym, tests, true}
use Rattle.std.proofs.lemmas.Iterator.{YieldsList-from_slice}
use Rattle.std.proofs.lemmas.Iterator.Search.{all_from_yields_List}
use Rattle.std.specs.List.{AllByRecursion, list_all}
use Rattle.sqlite_value.specs.Order.{Row}
use Rattle.society_core.proofs.lemmas.CandidateLemmas.{both}
use Rattle.book_audit.specs.Auditing.{is_of_one}
use Rattle.book_audit.proofs.strangers.are_of_these.Goals as goal

each_passes : (test : Row → Bool) (rows : List Row) → list_all test rows ≡ true → AllByRecursion (λ row. test row ≡ true) rows
each_passes test [] all = tt
each_passes test (row ∷ rows) all =
    let two = both (test row) (list_all test rows) all in
    (two.0, each_passes test rows two.1)

all_pass : (test : Row → Bool) (rows : List Row) → AllByRecursion (λ row. test row ≡ true) rows → list_all test rows ≡ true
all_pass test [] each = refl
all_pass test (row ∷ rows) each = ap₂ (λ a b. a && b) each.0 (all_pass test rows each.1)

pub returns : goal.returns
returns c =
    let test = is_of_one c.args.senders.now in
    let rows = c.args.rows.now in
    let all = all_from_yields_List test _ _ c.all.result c.all.ensures.ran (YieldsList-from_slice rows cc) (λ x b q k. search (rules, tests)) in (
      λ yes. each_passes test rows (sym all ∙ yes),
      λ each. all ∙ all_pass test rows each,
    )
