use Rattle.std.proofs.Common.{◌≡◌, subst, sym, rules}
use Rattle.std.specs.Prelude.{Vec}
use Rattle.std.specs.declared.alloc.Global.{Global}
use Rattle.pool_split.specs.Credits.{credits_together}
use Rattle.share_rules.specs.declared.kind.Kind.{Kind}
use Rattle.society_book.proofs.lemmas.together.ErrLemmas.{blames_where, errs_as, errs_on}
use Rattle.society_book.proofs.lemmas.together.StepLemmas.{looks_as, more}
use Rattle.society_book.specs.Sources.{HoldsWorks}
use Rattle.society_closings.proofs.lemmas.money.Payments.{by_each}
use Rattle.society_closings.specs.Blamed.{BelongNowhere, LackCut, LackTallied}
use Rattle.society_closings.specs.CutWorks.{ListsWorks, wants_for}
use Rattle.society_closings.specs.Weighing.{AreWorksWeighed}
use Rattle.society_core.specs.Book.{Book}
use Rattle.society_core.specs.Candidates.{ReachesCut, StandFor}
use Rattle.society_core.specs.Owners.{works_of_cut}
use Rattle.society_core.specs.Points.{Tallies, is_tallied, rows_named}
use Rattle.society_core.specs.Pools.{credits_of, holders_of}
use Rattle.society_core.specs.declared.claim_list.Candidate.{Candidate}
use Rattle.sqlite.specs.Held.{state}
use Rattle.society_closings.proofs.paying.portions_for.Goals as goal

pub returns-clause-looks : goal.returns-clause-looks
returns-clause-looks g c = record {
  same_reference = search rules;
  says =
      let o = c.args.office.now in
      let order = c.args.order.now in
      let tally = c.args.tally.now in
      let works = c.args.works.now in
      let old = state g.S.Store c.args.tx.now.conn.now in
      let Ready : Book → Type 0 = λ b. ListsWorks (wants_for order.cut (is_tallied tally)) old.now.trees works.listed × AreWorksWeighed o old.now.trees works × HoldsWorks o b old.now.trees × ReachesCut b order × Tallies tally (rows_named b order) in
      looks_as old (state g.S.Store c.candidates_in.new.tx.conn.now) c.in_ok-candidates.candidates c.portions_by.result _ _ c.in_ok-candidates.ensures.looks.says
      (λ stand. more c.portions_by.result (λ y pays listed weighed b holds reached tallied. pays b (listed, weighed, holds, reached, tallied))
      (by_each c.portions_by.result Ready (λ b y. credits_together y.items ≡ credits_of o b order)
      (λ b ready. c.portions_by.ensures.pays o b ready.4
      (subst (λ (right : Kind). StandFor (holders_of right o) (is_tallied tally) (works_of_cut o b order) c.deref.result.now) c.kind.ensures
      (subst (StandFor (holders_of c.kind.result o) (is_tallied tally) (works_of_cut o b order)) (sym c.deref.ensures.value) (stand ready.0 ready.1 b ready.2 ready.3))))));
}

pub returns-in_err-candidates-clause-err : goal.returns-in_err-candidates-clause-err
returns-in_err-candidates-clause-err g c =
    let o = c.args.office.now in
    let order = c.args.order.now in
    let tally = c.args.tally.now in
    let works = c.args.works.now in
    errs_on (Vec Candidate Global) (LackCut o order tally works) (LackTallied o order tally works) (state g.S.Store c.args.tx.now.conn.now) (state g.S.Store c.candidates_in.new.tx.conn.now) _ c.from_residual.result
    c.in_err-candidates.ensures.err c.from_residual.ensures.1 (λ no listed weighed b holds reached tallied few. no listed b holds reached)

pub returns-clause-err : goal.returns-clause-err
returns-clause-err g c =
    let o = c.args.office.now in
    let order = c.args.order.now in
    let tally = c.args.tally.now in
    let works = c.args.works.now in
    let old = state g.S.Store c.args.tx.now.conn.now in
    errs_as (LackTallied o order tally works) old (state g.S.Store c.candidates_in.new.tx.conn.now) c.in_ok-candidates.candidates c.portions_by.result _ c.in_ok-candidates.ensures.looks.says
    (λ stand. blames_where (BelongNowhere tally c.deref.result.now order) (LackTallied o order tally works old.now.trees) c.portions_by.result c.portions_by.ensures.blames
    (λ no listed weighed b holds reached tallied few. no o b tallied few
    (subst (λ (right : Kind). StandFor (holders_of right o) (is_tallied tally) (works_of_cut o b order) c.deref.result.now) c.kind.ensures
    (subst (StandFor (holders_of c.kind.result o) (is_tallied tally) (works_of_cut o b order)) (sym c.deref.ensures.value) (stand listed weighed b holds reached)))))
