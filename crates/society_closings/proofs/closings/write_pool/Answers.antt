use Rattle.std.proofs.Common.{w64, rules}
use Rattle.std.proofs.lemmas.Int.{to_z-of_z}
use Rattle.sqlite.specs.Held.{state}
use Rattle.pool_split.specs.Credits.{credits_together}
use Rattle.society_closings.proofs.lemmas.money.PoolWrites.{closes_by}
use Rattle.society_book.proofs.lemmas.together.StepLemmas.{does_open_then}
use Rattle.society_closings.proofs.closings.write_pool.Goals as goal

pub returns : goal.returns
returns g c = record {
  does = record {
    same_reference = search rules;
    says =
        let old = state g.S.Store c.args.tx.now.conn.now in
        let mid = state g.S.Store c.add_order.new.tx.conn.now in
        let new = state g.S.Store c.pay_out.new.tx.conn.now in
        does_open_then old mid new _ c.pay_out.result _ _ _
        (rw (to_z-of_z w64 c.in_ok-column_of.field-0 c.in_ok-column_of.ensures.range, c.in_ok-column_of.ensures.value, c.amount.ensures.value, c.as_slice.ensures.value, c.as_slice-2.ensures.value, c.in_ok-cuts.ensures, c.in_ok-paid.ensures, c.cut.ensures.value, c.returns.ensures.value, c.kind.ensures) at c.in_ok-add_order.ensures.does.says)
        c.pay_out.ensures.does.says
        (λ y ordered paid. closes_by c.args.pool c.args.order.now (credits_together c.args.portions.now) paid.1 old.now mid.now paid.0 new.now ordered paid.2.0 paid.2.1 paid.3);
  };
}
