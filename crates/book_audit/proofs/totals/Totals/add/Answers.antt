use Rattle.society_closings.specs.Closings.{row_of_account}
use Rattle.std.proofs.Common.{◌≡◌, ◌∙◌, ◌+◌, ◌++◌, ◌∷◌, [], List, ap, append_assoc, subst, sym, take}
use Rattle.std.proofs.lemmas.List.{take_more}
use Rattle.pool_split.specs.declared.claim.Credit.{Credit}
use Rattle.book_audit.specs.Balances.{row_by_units}
use Rattle.book_audit.proofs.lemmas.balances.Comings.{comes_more}
use Rattle.book_audit.proofs.totals.Totals.add.Goals as goal

pub loop-credit-preserved : goal.loop-credit-preserved
loop-credit-preserved c = λ done comes q.
    let credits = c.args.credits.now in
    let i = c.loop-credit.credit-index in
    let credit = c.credit-item.result in
    let units = c.add_units.new.units in
    let next : take (i + 1) credits ≡ take i credits ++ credit ∷ [] = take_more credits i credit c.loop-credit-test.true ∙ ap (λ (x : Credit). take i credits ++ x ∷ []) (sym c.credit-item.is) in
    subst (λ (l : List Credit). row_by_units units q ≡ row_of_account l q)
    (append_assoc done (take i credits) (credit ∷ []) ∙ ap (λ (l : List Credit). done ++ l) (sym next))
    (comes_more c.loop-credit.self.units units (done ++ take i credits) credit c.in_ok-account.account.items c.in_ok-account.ensures c.in_ok-add_units.ensures.added (c.loop-credit.invariant done comes) q)
