use Rattle.std.proofs.Common.{◌∙◌, [], ◌∷◌, ◌++◌, List, ap, append_assoc, arith, sym, take}
use Rattle.std.proofs.lemmas.List.{take_all}
use Rattle.pool_split.specs.declared.claim.Credit.{Credit}
use Rattle.society_closings.specs.Closings.{row_of_account}
use Rattle.society_closings.proofs.lemmas.money.PoolWrites.{take_next}
use Rattle.society_closings.proofs.lemmas.money.SameTotals.{same_behind, same_itself}
use Rattle.society_closings.proofs.totals.totals_of_runs.Goals as goal

pub loop-credit-init : goal.loop-credit-init
loop-credit-init c a = ap (λ (xs : List Credit). row_of_account (xs ++ c.in-Some.first.now ∷ []) a) c.new-totals.ensures.items

pub loop-credit-preserved : goal.loop-credit-preserved
loop-credit-preserved c a =
    let done = c.loop-credit.totals.items in
    let total = c.loop-credit.total in
    let credit = c.credit-item.result in
    let i = c.loop-credit.credit-index in
    let rest = c.in-Some.rest.now in
    c.in_ok-total.ensures a
    ∙ ap (λ (xs : List Credit). row_of_account xs a) (sym (append_assoc done (total ∷ []) (credit ∷ [])))
    ∙ same_behind (done ++ total ∷ []) (c.in-Some.first.now ∷ take i rest) (credit ∷ []) (credit ∷ []) c.loop-credit.invariant (same_itself (credit ∷ [])) a
    ∙ ap (λ (xs : List Credit). row_of_account (c.in-Some.first.now ∷ xs) a) (sym (take_next rest i credit (omega (arith, c.loop-credit-test.true)) c.credit-item.is))

pub returns : goal.returns
returns c a =
    ap (λ (xs : List Credit). row_of_account xs a) c.in_ok-push.ensures.items
    ∙ c.loop-credit.invariant a
    ∙ ap (λ (xs : List Credit). row_of_account (c.in-Some.first.now ∷ xs) a) (take_all c.loop-credit.credit-index c.in-Some.rest.now c.loop-credit-test.false)
    ∙ ap (λ (xs : List Credit). row_of_account xs a) (sym c.in-Some.ensures.cases.0)
