use Rattle.std.proofs.Common.{◌≡◌, ◌∙◌, ◌≤◌, List, Ok, ap, arith, flat_map, length, length-append, subst, sym, take, is_some, rules}
use Rattle.std.proofs.lemmas.List.{take_all}
use Rattle.society_book.proofs.lemmas.together.StepLemmas.{looks_as, looks_then, nothing}
use Rattle.society_closings.proofs.lemmas.cuts.FaultLemmas.{errs_passed}
use Rattle.society_closings.proofs.lemmas.money.Payments.{rows_next}
use Rattle.society_closings.specs.Blamed.{LackReturn, LackReturns}
use Rattle.society_core.proofs.lemmas.CandidateLemmas.{all_at}
use Rattle.society_core.specs.Book.{return_at}
use Rattle.society_core.specs.Candidates.{rows_of_return}
use Rattle.society_core.specs.Points.{Tallies}
use Rattle.society_core.specs.declared.return_key.ReturnKey.{ReturnKey}
use Rattle.sqlite.specs.Held.{state}
use Rattle.society_closings.proofs.paying.tally_of.Goals as goal

pub loop-key-init : goal.loop-key-init
loop-key-init g c = record {
  same_reference = search;
  looks = nothing (state g.S.Store c.args.tx.now.conn.now) (Ok tt) _ (λ o b holds few. (c.new-tally.ensures, omega arith));
}

pub loop-key-preserved : goal.loop-key-preserved
loop-key-preserved g c =
    let keys = c.args.returns.now in
    let i = c.loop-key.key-index in
    let key = c.key-item.result in
    let old = state g.S.Store c.args.tx.now.conn.now in
    let mid = state g.S.Store c.loop-key.tx.conn.now in
    let new = state g.S.Store c.add_return.new.tx.conn.now in
    record {
      same_reference = c.add_return.ensures.looks.same_reference ∙ c.loop-key.invariant.same_reference;
      looks = looks_then old mid new tt (Ok tt) _ _ _ c.loop-key.invariant.looks c.in_ok-add_return.ensures.looks.says
          (λ y first second o b holds few.
          let before = flat_map (rows_of_return b) (take i keys) in
          let so_far = first o b holds few in
          let short : length before ≤ 9990000 = omega (arith, so_far.1, few, c.loop-key-test.true) in
          let more = second o b before holds short so_far.0 in
          let next = rows_next b keys i key (omega (arith, c.loop-key-test.true)) c.key-item.is in (
            subst (Tallies c.add_return.new.tally) (sym next) more.0,
            omega (arith, ap length next, length-append before (rows_of_return b key), so_far.1, more.1),
          ));
    }

pub returns-clause-looks : goal.returns-clause-looks
returns-clause-looks g c = record {
  same_reference = search rules;
  says =
      let keys = c.args.returns.now in
      looks_as (state g.S.Store c.args.tx.now.conn.now) (state g.S.Store c.loop-key.tx.conn.now) tt (Ok c.loop-key.tally) _ _ c.loop-key.invariant.looks
      (λ all o b holds few.
      let it = all o b holds few in
      let whole : take c.loop-key.key-index keys ≡ keys = take_all c.loop-key.key-index keys (omega (arith, c.loop-key-test.false)) in (
        subst (λ (ks : List ReturnKey). Tallies c.loop-key.tally (flat_map (rows_of_return b) ks)) whole it.0,
        omega (arith, ap (λ (ks : List ReturnKey). length (flat_map (rows_of_return b) ks)) whole, it.1, few, c.loop-key.auto.key-index-end),
      ));
}

pub returns-in_err-add_return-clause-err : goal.returns-in_err-add_return-clause-err
returns-in_err-add_return-clause-err g c =
    let keys = c.args.returns.now in
    let i = c.loop-key.key-index in
    let key = c.key-item.result in
    errs_passed (Unit {0}) (LackReturn key) (LackReturns keys) (state g.S.Store c.args.tx.now.conn.now) (state g.S.Store c.loop-key.tx.conn.now) (state g.S.Store c.add_return.new.tx.conn.now) tt _ c.from_residual.result _ _
    c.loop-key.invariant.looks c.in_err-add_return.ensures.looks.says c.in_err-add_return.ensures.err c.from_residual.ensures.1
    (λ first no o b holds there. no o b holds (ap (λ (k : ReturnKey). is_some (return_at b k)) c.key-item.is ∙ all_at (λ (k : ReturnKey). is_some (return_at b k)) keys i key there (omega (arith, c.loop-key-test.true))))
