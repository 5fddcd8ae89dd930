use Rattle.society_closings.proofs.lemmas.cuts.FaultLemmas.{errs_passed}
use Rattle.society_closings.specs.Blamed.{HoldNoWorks}
use Rattle.sqlite.specs.Held.{state}
use Rattle.society_closings.proofs.pool_works.transmissions_of.Goals as goal

pub returns-in_err-add_transmissions_of-clause-err : goal.returns-in_err-add_transmissions_of-clause-err
returns-in_err-add_transmissions_of-clause-err g c =
    errs_passed (Unit {0}) HoldNoWorks HoldNoWorks (state g.S.Store c.args.tx.now.conn.now) (state g.S.Store c.loop-sender.tx.conn.now) (state g.S.Store c.add_transmissions_of.new.tx.conn.now) tt _ c.from_residual.result _ _
    c.loop-sender.invariant.looks c.in_err-add_transmissions_of.ensures.looks.says c.in_err-add_transmissions_of.ensures.err c.from_residual.ensures.1 (λ first no. no)
