use Rattle.std.proofs.Common.{◌≤◌, List, subst, flat_map, length, rules}
use Rattle.society_book.proofs.lemmas.together.ErrLemmas.{errs_on, errs_then}
use Rattle.society_book.proofs.lemmas.together.StepLemmas.{looks_then}
use Rattle.society_closings.proofs.lemmas.cuts.CutLists.{lists_tallied}
use Rattle.society_closings.specs.Blamed.{CannotPayAmong, LackReturns, LackTallied}
use Rattle.society_core.specs.Candidates.{rows_of_return}
use Rattle.society_core.specs.Points.{Tallies}
use Rattle.society_core.specs.declared.points.Tally.{Tally}
use Rattle.society_core.specs.declared.return_key.ReturnKey.{ReturnKey}
use Rattle.sqlite.specs.Held.{state}
use Rattle.society_closings.proofs.paying.portions_in.Goals as goal

pub returns-clause-looks : goal.returns-clause-looks
returns-clause-looks g c = record {
  same_reference = search rules;
  says =
      let o = c.args.office.now in
      let order = c.args.order.now in
      let tally = c.in_ok-tally.tally in
      let works = c.args.works.now in
      let old = state g.S.Store c.args.tx.now.conn.now in
      looks_then old (state g.S.Store c.tally_of.new.tx.conn.now) (state g.S.Store c.portions_for.new.tx.conn.now) tally c.portions_for.result _ _ _ c.in_ok-tally.ensures.looks.says c.portions_for.ensures.looks.says
      (λ y tallied pays lists b holds reached.
      let its = subst (λ (ks : List ReturnKey). Tallies tally (flat_map (rows_of_return b) ks)) c.returns.ensures.value (tallied o b holds c.returns.ensures.limit).0 in
      pays (lists_tallied o b order old.now.trees works tally holds its lists) lists.1 b holds reached its);
}

pub returns-in_err-tally-clause-err : goal.returns-in_err-tally-clause-err
returns-in_err-tally-clause-err g c =
    let o = c.args.office.now in
    let order = c.args.order.now in
    errs_on Tally (LackReturns order.returns) (CannotPayAmong o order c.args.works.now) (state g.S.Store c.args.tx.now.conn.now) (state g.S.Store c.tally_of.new.tx.conn.now) _ c.from_residual.result
    (rw c.returns.ensures.value at c.in_err-tally.ensures.err) c.from_residual.ensures.1 (λ no lists b holds pays. no o b holds pays.returns)

pub returns-clause-err : goal.returns-clause-err
returns-clause-err g c =
    let o = c.args.office.now in
    let order = c.args.order.now in
    let tally = c.in_ok-tally.tally in
    let works = c.args.works.now in
    let old = state g.S.Store c.args.tx.now.conn.now in
    errs_then (LackTallied o order tally works) (CannotPayAmong o order works) old (state g.S.Store c.tally_of.new.tx.conn.now) (state g.S.Store c.portions_for.new.tx.conn.now) tally c.portions_for.result _ c.in_ok-tally.ensures.looks.says c.portions_for.ensures.looks.says.survives c.portions_for.ensures.err
    (λ tallied no lists b holds pays.
    let its = tallied o b holds c.returns.ensures.limit in
    let counted = subst (λ (ks : List ReturnKey). Tallies tally (flat_map (rows_of_return b) ks)) c.returns.ensures.value its.0 in
    no (lists_tallied o b order old.now.trees works tally holds counted lists) lists.1 b holds pays.reached counted (subst (λ (ks : List ReturnKey). length (flat_map (rows_of_return b) ks) ≤ 10000000) c.returns.ensures.value its.1))
