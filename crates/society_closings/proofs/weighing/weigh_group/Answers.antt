use Rattle.std.proofs.Common.{◌≡◌, ◌∙◌, ◌+◌, ◌++◌, ◌∷◌, [], List, ℕ, ap, arith, length, subst, sym, take}
use Rattle.std.proofs.lemmas.List.{length-take-le, take_all, take_more}
use Rattle.cwr_files.specs.declared.transmission.Transaction.{Transaction}
use Rattle.society_closings.proofs.lemmas.cuts.Weighed.{weighs_then}
use Rattle.society_closings.specs.Weighing.{WeighsMore}
use Rattle.society_core.specs.Points.{is_tallied}
use Rattle.society_closings.proofs.weighing.weigh_group.Goals as goal

pub loop-index-preserved : goal.loop-index-preserved
loop-index-preserved c =
    let kind = c.args.weighing.now.kind in
    let o = c.args.weighing.now.office.now in
    let of_these = is_tallied c.args.weighing.now.tally.now in
    let s = c.args.sender.now in
    let first = c.args.first in
    let all = c.args.transactions.now in
    let i = c.loop-index.index in
    let t = c.index-transactions-index.result in
    let so_far = take i all in
    let next : take (i + 1) all ≡ so_far ++ t ∷ [] = take_more all i t c.loop-index-test.true ∙ ap (λ (x : Transaction). so_far ++ x ∷ []) (sym c.index-transactions-index.is) in
    let place : c.in_ok-place.place ≡ first + length so_far = omega (arith, length-take-le i all (omega (arith, c.loop-index-test.true)), c.in_ok-place.ensures.after) in
    subst (λ (ts : List Transaction). WeighsMore kind o of_these s first ts c.args.versions.now.items c.weigh_transaction.new.versions.items) (sym next)
    (weighs_then kind o of_these s first so_far (t ∷ []) c.args.versions.now.items c.loop-index.versions.items c.weigh_transaction.new.versions.items c.loop-index.invariant
    (subst (λ (k : ℕ). WeighsMore kind o of_these s k (t ∷ []) c.loop-index.versions.items c.weigh_transaction.new.versions.items) place c.in_ok-weigh_transaction.ensures))

pub returns-clause-weighs : goal.returns-clause-weighs
returns-clause-weighs c =
    subst (λ (ts : List Transaction). WeighsMore c.args.weighing.now.kind c.args.weighing.now.office.now (is_tallied c.args.weighing.now.tally.now) c.args.sender.now c.args.first ts c.args.versions.now.items c.loop-index.versions.items) (take_all c.loop-index.index c.args.transactions.now c.loop-index-test.false) c.loop-index.invariant
