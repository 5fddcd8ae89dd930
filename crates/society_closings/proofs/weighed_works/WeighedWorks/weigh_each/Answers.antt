use Rattle.std.proofs.Common.{◌∙◌, Ok}
use Rattle.society_book.proofs.lemmas.together.StepLemmas.{looks_then}
use Rattle.society_closings.proofs.lemmas.cuts.FaultLemmas.{errs_passed}
use Rattle.society_closings.specs.Blamed.{HoldNoWorks}
use Rattle.sqlite.specs.Held.{state}
use Rattle.society_closings.proofs.weighed_works.WeighedWorks.weigh_each.Goals as goal

pub loop-key-preserved : goal.loop-key-preserved
loop-key-preserved g c = record {
  same_reference = c.weigh.ensures.looks.same_reference ∙ c.loop-key.invariant.same_reference;
  recordings = c.weigh.ensures.recordings ∙ c.loop-key.invariant.recordings;
  looks = looks_then (state g.S.Store c.args.tx.now.conn.now) (state g.S.Store c.loop-key.tx.conn.now) (state g.S.Store c.weigh.new.tx.conn.now) tt (Ok tt) _ _ _ c.loop-key.invariant.looks c.in_ok-weigh.ensures.looks.says
      (λ y first second are. second (first are));
}

pub returns-in_err-weigh-clause-err : goal.returns-in_err-weigh-clause-err
returns-in_err-weigh-clause-err g c =
    errs_passed (Unit {0}) HoldNoWorks HoldNoWorks (state g.S.Store c.args.tx.now.conn.now) (state g.S.Store c.loop-key.tx.conn.now) (state g.S.Store c.weigh.new.tx.conn.now) tt _ c.from_residual.result _ _
    c.loop-key.invariant.looks c.in_err-weigh.ensures.looks.says c.in_err-weigh.ensures.err c.from_residual.ensures.1 (λ first no. no)
