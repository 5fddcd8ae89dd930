use Rattle.std.proofs.Common.{◌≡◌, ◌≤◌, ◌∙◌, Bor, List, ℕ, ap, arith, length, map, nat_le, sum, true}
use Rattle.std.specs.List.{flat_map}
use Rattle.std.proofs.lemmas.Bool.Decides.{nat_tests}
use Rattle.std.proofs.lemmas.List.{length-map, take_all}
use Rattle.pool_split.specs.Credits.{units_of}
use Rattle.pool_split.specs.declared.claim.Credit.{Credit}
use Rattle.society_core.specs.Orders.{Order}
use Rattle.society_core.specs.Pools.{credits_of, units_to}
use Rattle.society_core.proofs.lemmas.PoolLemmas.{credits_through, few_pools, paid_at, part_within, units_next}
use Rattle.society_core.proofs.plain_pools.balance_of.Goals as goal

at_most : (n : ℕ) → nat_le n 1000000000000 ≡ true → n ≤ 1000000000000
at_most n h = grind (arith, nat_tests)

pub loop-order-init : goal.loop-order-init
loop-order-init c = record { units = omega arith; within = omega arith }

pub credits_by-requires-clause-there : goal.credits_by-requires-clause-there
credits_by-requires-clause-there c =
    let items = c.deref-order-items.result.now in
    let same = ap (map (λ (order : Bor Order). order.now)) c.deref-order-items.ensures.value ∙ c.in_ok-orders.ensures in
    (paid_at (λ (order : Bor Order). order.now) c.args.book.now c.requires.sound items same c.loop-order.order-index c.order-item.result c.loop-order-test.true c.order-item.is).returns

pub credits_by-requires-clause-reached : goal.credits_by-requires-clause-reached
credits_by-requires-clause-reached c =
    let items = c.deref-order-items.result.now in
    let same = ap (map (λ (order : Bor Order). order.now)) c.deref-order-items.ensures.value ∙ c.in_ok-orders.ensures in
    (paid_at (λ (order : Bor Order). order.now) c.args.book.now c.requires.sound items same c.loop-order.order-index c.order-item.result c.loop-order-test.true c.order-item.is).reached

pub units_in-units-requires : goal.units_in-units-requires
units_in-units-requires c =
    let items = c.deref-order-items.result.now in
    let same = ap (map (λ (order : Bor Order). order.now)) c.deref-order-items.ensures.value ∙ c.in_ok-orders.ensures in
    let paid = paid_at (λ (order : Bor Order). order.now) c.args.book.now c.requires.sound items same c.loop-order.order-index c.order-item.result c.loop-order-test.true c.order-item.is in
    let whole = ap (λ (cs : List Credit). sum (map units_of cs)) c.deref.ensures.value ∙ c.in_ok-credits.ensures.whole in
    record { within = omega (arith, whole, at_most c.order-item.result.now.amount paid.kept.amount) }

pub overflow_add-units : goal.overflow_add-units
overflow_add-units c =
    let items = c.deref-order-items.result.now in
    let same = ap (map (λ (order : Bor Order). order.now)) c.deref-order-items.ensures.value ∙ c.in_ok-orders.ensures in
    let paid = paid_at (λ (order : Bor Order). order.now) c.args.book.now c.requires.sound items same c.loop-order.order-index c.order-item.result c.loop-order-test.true c.order-item.is in
    let whole = ap (λ (cs : List Credit). sum (map units_of cs)) c.deref.ensures.value ∙ c.in_ok-credits.ensures.whole in
    let few : length items ≤ 100000 = omega (arith, ap length same, length-map items (λ (order : Bor Order). order.now), few_pools c.args.book.now c.requires.sound) in
    omega (
      arith,
      c.loop-order.invariant.within,
      c.units_in-units.ensures,
      part_within c.args.account.now c.deref.result.now,
      whole,
      at_most c.order-item.result.now.amount paid.kept.amount,
      few,
      c.loop-order-test.true,
    )

pub loop-order-preserved : goal.loop-order-preserved
loop-order-preserved c =
    let items = c.deref-order-items.result.now in
    let same = ap (map (λ (order : Bor Order). order.now)) c.deref-order-items.ensures.value ∙ c.in_ok-orders.ensures in
    let paid = paid_at (λ (order : Bor Order). order.now) c.args.book.now c.requires.sound items same c.loop-order.order-index c.order-item.result c.loop-order-test.true c.order-item.is in
    let whole = ap (λ (cs : List Credit). sum (map units_of cs)) c.deref.ensures.value ∙ c.in_ok-credits.ensures.whole in
    let mine = ap (units_to c.args.account.now) (c.deref.ensures.value ∙ c.in_ok-credits.ensures.credits) in
    record {
      units = omega (
        arith,
        c.loop-order.invariant.units,
        c.units_in-units.ensures,
        mine,
        units_next c.args.account.now (λ (order : Bor Order). credits_of c.args.office.now c.args.book.now order.now) items c.loop-order.order-index c.order-item.result c.loop-order-test.true c.order-item.is,
      );
      within = omega (arith, c.loop-order.invariant.within, c.units_in-units.ensures, part_within c.args.account.now c.deref.result.now, whole, at_most c.order-item.result.now.amount paid.kept.amount);
    }

pub returns : goal.returns
returns c =
    let items = c.deref-order-items.result.now in
    let same = ap (map (λ (order : Bor Order). order.now)) c.deref-order-items.ensures.value ∙ c.in_ok-orders.ensures in
    let pays = credits_of c.args.office.now c.args.book.now in
    c.loop-order.invariant.units
    ∙ ap (λ (os : List (Bor Order)). units_to c.args.account.now (flat_map (λ (order : Bor Order). pays order.now) os)) (take_all c.loop-order.order-index items (omega (arith, c.loop-order-test.false)))
    ∙ ap (units_to c.args.account.now) (credits_through (λ (order : Bor Order). order.now) pays items ∙ ap (flat_map pays) same)
