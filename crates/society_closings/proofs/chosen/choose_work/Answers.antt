use Rattle.std.proofs.Common.{Ok, Option, rules}
use Rattle.society_book.proofs.lemmas.together.ErrLemmas.{errs_on}
use Rattle.society_book.proofs.lemmas.together.StepLemmas.{looks_as}
use Rattle.society_closings.proofs.lemmas.cuts.FaultLemmas.{errs_memory}
use Rattle.society_closings.specs.Blamed.{HoldNoWorks}
use Rattle.sqlite.specs.Held.{state}
use Rattle.works_core.specs.declared.version.WorkVersion.{WorkVersion}
use Rattle.society_closings.proofs.chosen.choose_work.Goals as goal

pub returns-clause-looks : goal.returns-clause-looks
returns-clause-looks g c = record {
  same_reference = search rules;
  says =
      looks_as (state g.S.Store c.args.tx.now.conn.now) (state g.S.Store c.version_at.new.tx.conn.now) c.in_ok-version.version (Ok tt) _ _ c.in_ok-version.ensures.looks.says
      (λ is o b known holds within chooses. c.in_ok-choose.ensures o b c.args.key.now known chooses (is o b holds within));
}

pub returns-in_err-version-clause-err : goal.returns-in_err-version-clause-err
returns-in_err-version-clause-err g c =
    errs_on (Option WorkVersion) HoldNoWorks HoldNoWorks (state g.S.Store c.args.tx.now.conn.now) (state g.S.Store c.version_at.new.tx.conn.now) _ c.from_residual.result c.in_err-version.ensures.err c.from_residual.ensures.1 (λ h. h)

pub returns-in_err-choose-clause-err : goal.returns-in_err-choose-clause-err
returns-in_err-choose-clause-err g c =
    errs_memory HoldNoWorks (state g.S.Store c.args.tx.now.conn.now) (state g.S.Store c.version_at.new.tx.conn.now) c.from_residual-in_err-choose.result c.from_residual-in_err-choose.ensures.1
