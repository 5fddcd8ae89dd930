use Rattle.std.proofs.Common.{w64, FitsSigned, sym, subst, arith, rules}
use Rattle.std.proofs.lemmas.Int.{to_z-of_z}
use Rattle.sqlite.specs.Held.{state}
use Rattle.sqlite.specs.State.{HasCleanDisk}
use Rattle.society_rows.specs.Stored.{HasLayout}
use Rattle.society_rows.proofs.lemmas.changes.Units.{sums_units, told_refuses}
use Rattle.society_rows.proofs.balances.add_units.Goals as goal

pub returns-clause-written : goal.returns-clause-written
returns-clause-written g c = record {
  same_reference = search rules;
  says =
      let before = c.in_ok-before.before in
      let sum = rw (to_z-of_z w64 before c.in_ok-before.ensures.range, to_z-of_z w64 c.args.units c.ranges.units) at c.in-Some.ensures in
      let small : FitsSigned w64 c.in-Some.sum = subst (FitsSigned w64) (sym sum.1) sum.0 in
      sums_units (state g.S.Store c.args.tx.now.conn.now) (state g.S.Store c.units_of.new.tx.conn.now) (state g.S.Store c.put_balance.new.tx.conn.now) c.args.account.now before c.args.units c.in-Some.sum c.put_balance.result
      c.in_ok-before.ensures.read.says sum.0 sum.1 (rw (to_z-of_z w64 c.in-Some.sum small) at c.put_balance.ensures.written.says);
}

pub returns-clause-cause : goal.returns-clause-cause
returns-clause-cause g c = λ clean has.
    let old = state g.S.Store c.args.tx.now.conn.now in
    let early : HasCleanDisk (state g.S.Store c.units_of.new.tx.conn.now) = omega (arith, c.put_balance.ensures.written.says.survives.clean) in
    let still = (c.in_ok-before.ensures.read.says.same early has).0.now_is in
    told_refuses c.args.account.now c.args.units old.now.trees c.put_balance.result (c.put_balance.ensures.err clean (subst HasLayout (sym still) has))
