use Rattle.std.proofs.Common.{◌∙◌, List, Ok, arith, subst, sym, take, w64}
use Rattle.std.proofs.lemmas.Int.{to_z-of_z}
use Rattle.sqlite.specs.Held.{state}
use Rattle.pool_split.specs.declared.claim.Credit.{Credit}
use Rattle.society_closings.specs.Closings.{AddsEach}
use Rattle.society_closings.proofs.lemmas.money.PoolWrites.{each_next, take_next}
use Rattle.society_book.proofs.lemmas.together.StepLemmas.{does_of, does_then}
use Rattle.society_closings.proofs.closings.add_balances.Goals as goal

pub loop-credit-preserved : goal.loop-credit-preserved
loop-credit-preserved g c =
    let all = c.args.credits.now in
    let i = c.loop-credit.credit-index in
    let x = c.credit-item.result in
    let old = state g.S.Store c.args.tx.now.conn.now in
    let mid = state g.S.Store c.loop-credit.tx.conn.now in
    let new = state g.S.Store c.add_units.new.tx.conn.now in
    record {
      same_reference = c.add_units.ensures.written.same_reference ∙ c.loop-credit.invariant.same_reference;
      does = does_then old mid new tt (Ok tt) _ _ _ c.loop-credit.invariant.does
          (does_of mid new (Ok _) _
          (rw (to_z-of_z w64 c.in_ok-column_of.field-0 c.in_ok-column_of.ensures.range, c.in_ok-column_of.ensures.value, c.as_slice.ensures.value, c.in_ok-account.ensures) at c.in_ok-add_units.ensures.written.says)
          (λ before after adds. adds.put.layout))
          (λ y first second. subst (λ (cs : List Credit). AddsEach cs old.now new.now) (sym (take_next all i x (omega (arith, c.loop-credit-test.true)) c.credit-item.is)) (each_next (take i all) x old.now mid.now new.now first second));
    }
