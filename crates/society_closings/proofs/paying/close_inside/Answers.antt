use Rattle.std.proofs.Common.{List, subst, rules}
use Rattle.sqlite.specs.Effect.{Database}
use Rattle.sqlite.specs.Held.{state}
use Rattle.pool_split.specs.declared.claim.Credit.{Credit}
use Rattle.society_core.proofs.lemmas.Closes.{entry_of_close, no_payer}
use Rattle.society_core.proofs.lemmas.Stores.{from_one}
use Rattle.society_core.specs.Pools.{credits_of}
use Rattle.society_closings.specs.Closings.{ClosesWith}
use Rattle.society_closings.proofs.lemmas.money.Payments.{cut_reached}
use Rattle.society_closings.proofs.lemmas.money.PoolHolds.{pool_holds}
use Rattle.society_closings.proofs.lemmas.cuts.WorksHeld.{works_of}
use Rattle.society_book.proofs.lemmas.together.StepLemmas.{does_then_open}
use Rattle.society_closings.proofs.paying.close_inside.Goals as goal

pub returns : goal.returns
returns g c = record {
  does = record {
    same_reference = search rules;
    says =
        let o = c.args.office.now in
        let pool = c.args.pool in
        let order = c.args.order.now in
        let old = state g.S.Store c.args.tx.now.conn.now in
        let mid = state g.S.Store c.portions_of_order.new.tx.conn.now in
        let new = state g.S.Store c.write_pool.new.tx.conn.now in
        does_then_open old mid new c.in_ok-portions.portions c.write_pool.result _ _ _ c.in_ok-portions.ensures.looks.says (rw (c.value.ensures.value, c.deref.ensures.value) at c.write_pool.ensures.does.says)
        (λ y pays closes. (
          (λ b holds free unrefused.
              let entry = entry_of_close b pool order (from_one 99999 pool c.value.ensures.limits.0 c.value.ensures.limits.1) unrefused in
              let same = pays.1 b (works_of o b old.now.trees holds) (cut_reached b pool order entry) in
              pool_holds o b pool order free entry old.now new.now holds c.in_ok-portions.ensures.kept (no_payer b order unrefused)
              (subst (λ (db : Database). ClosesWith pool order (credits_of o b order) db new.now) pays.0 (subst (λ (cs : List Credit). ClosesWith pool order cs mid.now new.now) same closes))),
          tt,
        ));
  };
}
