use Rattle.std.proofs.Common.{rules}
use Rattle.sqlite.specs.Held.{state}
use Rattle.society_book.proofs.lemmas.together.StepLemmas.{does_then}
use Rattle.society_closings.proofs.closings.pay_out.Goals as goal

pub returns : goal.returns
returns g c = record {
  does = record {
    same_reference = search rules;
    says =
        let old = state g.S.Store c.args.tx.now.conn.now in
        let mid = state g.S.Store c.add_lines.new.tx.conn.now in
        let new = state g.S.Store c.add_balances.new.tx.conn.now in
        does_then old mid new c.in_ok-totals.totals c.add_balances.result _ _ _ c.in_ok-totals.ensures.does.says (rw c.as_slice.ensures.value at c.add_balances.ensures.does.says)
        (λ y first second. (mid.now, c.in_ok-totals.totals.items, first, second));
  };
}
