use Rattle.std.proofs.Common.{Ok, subst, sym, rules}
use Rattle.std.specs.BTreeSet.{contains}
use Rattle.share_rules.specs.declared.kind.Kind.{Kind}
use Rattle.share_rules.specs.declared.kind.Kind.TheVariants.{Mechanical, Performing}
use Rattle.society_book.proofs.lemmas.together.StepLemmas.{looks_as, looks_then}
use Rattle.society_closings.proofs.lemmas.cuts.FaultLemmas.{errs_passed}
use Rattle.society_closings.proofs.lemmas.cuts.Lent.{both_weighed}
use Rattle.society_closings.specs.Blamed.{HoldNoWorks}
use Rattle.society_closings.specs.Weighing.{AreWeighed, AreWorksWeighed}
use Rattle.society_closings.specs.declared.weighed_works.WeighedWorks.{WeighedWorks}
use Rattle.society_core.specs.Keys.{bytes_cmp}
use Rattle.sqlite.specs.Held.{state}
use Rattle.sqlite_trees.specs.Tree.{Trees}
use Rattle.society_closings.proofs.pool_works.PoolWorks.weigh.Goals as goal
use Rattle.society_closings.proofs.pool_works.PoolWorks.weigh.Goals.{in-Mechanical, in-Performing}

pub returns-clause-looks : goal.returns-clause-looks
returns-clause-looks g c = record {
  same_reference = search rules;
  says =
      let o = c.args.office.now in
      let before = c.args.self.now in
      let old = state g.S.Store c.args.tx.now.conn.now in
      let mid = state g.S.Store c.transmissions_of.new.tx.conn.now in
      let new = state g.S.Store c.weighed_in.new.tx.conn.now in
      let weighed = c.in_ok-weighed.weighed in
      let Weighs : Kind → Trees → WeighedWorks → Type 0 = λ kind db w. AreWeighed kind o (contains bytes_cmp w.recordings) db w in
      looks_as old new weighed (Ok tt) (Weighs c.args.kind) _
      (looks_then old mid new c.in_ok-keys.keys (Ok weighed) _ (Weighs c.args.kind) (Weighs c.args.kind) c.in_ok-keys.ensures.looks.says c.in_ok-weighed.ensures.looks.says (λ y first second. second))
      (λ said was. elim c.match-kind.branch [
        | in-Performing w ↦ subst (AreWorksWeighed o old.now.trees) (sym w.self-is) (both_weighed o old.now.trees (record { listed = before.listed; performing = weighed; mechanical = before.mechanical }) (subst (λ kind. Weighs kind old.now.trees weighed) w.in-Performing.is said) (was Mechanical))
        | in-Mechanical w ↦ subst (AreWorksWeighed o old.now.trees) (sym w.self-is) (both_weighed o old.now.trees (record { listed = before.listed; performing = before.performing; mechanical = weighed }) (was Performing) (subst (λ kind. Weighs kind old.now.trees weighed) w.in-Mechanical.is said))
      ]);
}

pub returns-in_err-weighed-clause-err : goal.returns-in_err-weighed-clause-err
returns-in_err-weighed-clause-err g c =
    errs_passed WeighedWorks HoldNoWorks HoldNoWorks (state g.S.Store c.args.tx.now.conn.now) (state g.S.Store c.transmissions_of.new.tx.conn.now) (state g.S.Store c.weighed_in.new.tx.conn.now) c.in_ok-keys.keys _ c.from_residual-in_err-weighed.result _ _
    c.in_ok-keys.ensures.looks.says c.in_err-weighed.ensures.looks.says c.in_err-weighed.ensures.err c.from_residual-in_err-weighed.ensures.1 (λ first no. no)
