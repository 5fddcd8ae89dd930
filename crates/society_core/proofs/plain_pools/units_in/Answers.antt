use Rattle.std.proofs.Common.{◌∙◌, ap, arith, false, sym, true}
use Rattle.std.proofs.lemmas.List.{take_all}
use Rattle.society_core.specs.Pools.{units_to}
use Rattle.society_core.proofs.lemmas.PoolLemmas.{credit_next, credit_within}
use Rattle.society_core.proofs.plain_pools.units_in.Goals as goal
use Rattle.society_core.proofs.plain_pools.units_in.Goals.{then-is_same, else-is_same}

pub overflow_add-units : goal.overflow_add-units
overflow_add-units c =
    omega (arith, c.loop-credit.invariant, credit_within c.args.account.now c.args.credits.now c.loop-credit.credit-index c.credit-item.result c.loop-credit-test.true c.credit-item.is, c.requires.within)

pub loop-credit-preserved : goal.loop-credit-preserved
loop-credit-preserved c =
    let same = sym c.is_same.ensures in
    let next = credit_next c.args.account.now c.args.credits.now c.loop-credit.credit-index c.credit-item.result in
    elim c.if-is_same.branch [
      | then-is_same w ↦ omega (arith, w.units-is, c.loop-credit.invariant, next true c.loop-credit-test.true c.credit-item.is (same ∙ w.if-is_same.true))
      | else-is_same w ↦ omega (arith, w.units-is, c.loop-credit.invariant, next false c.loop-credit-test.true c.credit-item.is (same ∙ w.if-is_same.false))
    ]

pub returns : goal.returns
returns c = c.loop-credit.invariant ∙ ap (units_to c.args.account.now) (take_all c.loop-credit.credit-index c.args.credits.now (omega (arith, c.loop-credit-test.false)))
