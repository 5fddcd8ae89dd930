use Rattle.society_closings.specs.Closings.{row_of_account}
use Rattle.std.proofs.Common.{◌≡◌, ◌∙◌, ◌+◌, ◌++◌, ◌∷◌, [], List, ap, append-nil, append_assoc, subst, sym, take}
use Rattle.std.proofs.lemmas.Grind.{flat_map-append}
use Rattle.std.proofs.lemmas.List.{take_more}
use Rattle.pool_split.specs.Credits.{credits_together}
use Rattle.pool_split.specs.declared.claim.Credit.{Credit}
use Rattle.book_audit.specs.Balances.{row_by_units}
use Rattle.book_audit.proofs.totals.Totals.add_portions.Goals as goal

pub loop-portion-preserved : goal.loop-portion-preserved
loop-portion-preserved c = λ done comes q.
    let all = c.args.portions.now in
    let i = c.loop-portion.portion-index in
    let one : List Credit = c.portion-item.result in
    let units = c.add.new.self.units in
    let next : take (i + 1) all ≡ take i all ++ one ∷ [] = take_more all i one c.loop-portion-test.true ∙ ap (λ (x : List Credit). take i all ++ x ∷ []) (sym c.portion-item.is) in
    let together = ap credits_together next ∙ flat_map-append (λ (credits : List Credit). credits) (take i all) (one ∷ []) ∙ ap (λ (l : List Credit). credits_together (take i all) ++ l) (append-nil one) in
    subst (λ (l : List Credit). row_by_units units q ≡ row_of_account l q)
    (ap (λ (l : List Credit). (done ++ credits_together (take i all)) ++ l) (c.as_slice.ensures.value ∙ c.in_ok-credits.ensures) ∙ append_assoc done (credits_together (take i all)) one ∙ ap (λ (l : List Credit). done ++ l) (sym together))
    (c.in_ok-add.ensures.added (done ++ credits_together (take i all)) (c.loop-portion.invariant done comes) q)
