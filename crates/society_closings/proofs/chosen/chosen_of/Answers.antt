use Rattle.std.proofs.Common.{refl, ◌∙◌, ◌||◌, ◌+◌, List, ℕ, Ok, ap, arith, bytes_eq, sym, subst, take, rules}
use Rattle.std.proofs.lemmas.List.Folds.{list_any_more}
use Rattle.std.proofs.lemmas.List.{take_all}
use Rattle.std.specs.List.{list_any}
use Rattle.society_book.proofs.lemmas.together.StepLemmas.{looks_as, looks_then, nothing}
use Rattle.society_closings.proofs.lemmas.cuts.CutChoices.{chooses_as}
use Rattle.society_closings.proofs.lemmas.cuts.FaultLemmas.{errs_passed}
use Rattle.society_closings.specs.Blamed.{HoldNoWorks}
use Rattle.society_closings.specs.CutWorks.{Chooses}
use Rattle.sqlite.specs.Held.{state}
use Rattle.society_closings.proofs.chosen.chosen_of.Goals as goal

pub loop-work-init : goal.loop-work-init
loop-work-init g c = record {
  same_reference = refl;
  looks = nothing (state g.S.Store c.args.tx.now.conn.now) (Ok tt) _ (λ o b holds within. c.new-chosen.ensures o b c.args.key.now);
}

pub loop-work-preserved : goal.loop-work-preserved
loop-work-preserved g c =
    let all = c.args.works.now in
    let i = c.loop-work.work-index in
    let x = c.work-item.result in
    let old = state g.S.Store c.args.tx.now.conn.now in
    let mid = state g.S.Store c.loop-work.tx.conn.now in
    let new = state g.S.Store c.choose_work.new.tx.conn.now in
    let known = λ (q : List ℕ). list_any (bytes_eq q) (take i all) in
    let next = λ (q : List ℕ). list_any_more (bytes_eq q) all i x (omega (arith, c.loop-work-test.true)) ∙ ap (λ (y : List ℕ). known q || bytes_eq q y) (sym c.work-item.is) in
    record {
      same_reference = c.choose_work.ensures.looks.same_reference ∙ c.loop-work.invariant.same_reference;
      looks = looks_then old mid new tt (Ok tt) _ _ _ c.loop-work.invariant.looks c.in_ok-choose_work.ensures.looks.says
          (λ y first second o b holds within. chooses_as o b c.args.key.now known x (λ q. list_any (bytes_eq q) (take (i + 1) all)) c.choose_work.new.chosen next (second o b known holds within (first o b holds within)));
    }

pub returns-clause-looks : goal.returns-clause-looks
returns-clause-looks g c = record {
  same_reference = search rules;
  says =
      let all = c.args.works.now in
      looks_as (state g.S.Store c.args.tx.now.conn.now) (state g.S.Store c.loop-work.tx.conn.now) tt (Ok c.loop-work.chosen) _ _ c.loop-work.invariant.looks
      (λ first o b holds within. subst (λ (xs : List (List ℕ)). Chooses o b c.args.key.now (λ q. list_any (bytes_eq q) xs) c.loop-work.chosen) (take_all c.loop-work.work-index all c.loop-work-test.false) (first o b holds within));
}

pub returns-in_err-choose_work-clause-err : goal.returns-in_err-choose_work-clause-err
returns-in_err-choose_work-clause-err g c =
    errs_passed (Unit {0}) HoldNoWorks HoldNoWorks (state g.S.Store c.args.tx.now.conn.now) (state g.S.Store c.loop-work.tx.conn.now) (state g.S.Store c.choose_work.new.tx.conn.now) tt _ c.from_residual.result _ _
    c.loop-work.invariant.looks c.in_err-choose_work.ensures.looks.says c.in_err-choose_work.ensures.err c.from_residual.ensures.1 (λ first no. no)
