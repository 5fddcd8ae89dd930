use Rattle.std.proofs.Common.{◌≡◌, ◌∙◌, List, ℕ, ap, bytes_eq, option_map, sym, true, rules}
use Rattle.std.specs.List.{list_any}
use Rattle.society_book.proofs.lemmas.together.ErrLemmas.{errs_where}
use Rattle.society_book.proofs.lemmas.together.StepLemmas.{does_also}
use Rattle.society_closings.proofs.lemmas.cuts.CutLists.{recordings_noted}
use Rattle.society_closings.proofs.lemmas.cuts.CutNotes.{all_asked}
use Rattle.society_closings.proofs.lemmas.cuts.FaultLemmas.{errs_memory}
use Rattle.society_closings.proofs.lemmas.cuts.Lent.{lent_fewer}
use Rattle.society_closings.specs.Blamed.{LackCut, LackSenders}
use Rattle.society_closings.specs.CutWorks.{is_of_cut}
use Rattle.society_closings.specs.Weighing.{AreWorksWeighed}
use Rattle.society_core.specs.Points.{is_tallied}
use Rattle.sqlite.specs.Held.{state}
use Rattle.society_closings.proofs.cut_works.candidates_in.Goals as goal

pub returns-clause-looks : goal.returns-clause-looks
returns-clause-looks g c = record {
  same_reference = search rules;
  says =
      let tally = c.args.tally.now in
      let works = c.args.works.now in
      let cut = c.args.order.now.cut in
      let db = (state g.S.Store c.args.tx.now.conn.now).now.trees in
      let named = c.in_ok-named.named in
      let senders = λ (s : List ℕ). c.in_ok-named.ensures.senders s ∙ ap (λ keys. is_of_cut keys s) c.cut.ensures.value in
      let listed = λ (q : List ℕ) (is : is_tallied tally q ≡ true). c.in_ok-named.ensures.listed q (ap (λ (xs : List (List ℕ)). list_any (bytes_eq q) xs) c.as_slice.ensures.value ∙ sym (c.in_ok-recordings.ensures.tallied q) ∙ is) in
      let lent = λ (weighed : AreWorksWeighed c.args.office.now db works).
      lent_fewer c.args.kind c.args.office.now (λ q. list_any (bytes_eq q) c.as_slice-2.result.now) (is_tallied tally) db (option_map (λ w. w.now) c.weighed_for-weighed.result)
      (λ q is. ap (λ (xs : List (List ℕ)). list_any (bytes_eq q) xs) c.as_slice-2.ensures.value ∙ sym (c.in_ok-recordings.ensures.tallied q) ∙ is)
      (c.weighed_for-weighed.ensures c.args.office.now db weighed) in
      does_also (state g.S.Store c.args.tx.now.conn.now) (state g.S.Store c.candidates_of.new.tx.conn.now) c.candidates_of.result _ _ (rw c.cut-2.ensures.value at c.candidates_of.ensures.looks.says)
      (λ found said. (said.0, λ lists weighed b holds reached. said.1 b holds (lent weighed) (recordings_noted cut (is_tallied tally) db works.listed named lists senders listed) (all_asked named cut (λ s h. senders s ∙ h)) reached));
}

pub returns-in_err-recordings-clause-err : goal.returns-in_err-recordings-clause-err
returns-in_err-recordings-clause-err g c =
    let old = state g.S.Store c.args.tx.now.conn.now in
    errs_memory (LackCut c.args.office.now c.args.order.now c.args.tally.now c.args.works.now) old old c.from_residual.result c.from_residual.ensures.1

pub returns-in_err-named-clause-err : goal.returns-in_err-named-clause-err
returns-in_err-named-clause-err g c =
    let old = state g.S.Store c.args.tx.now.conn.now in
    errs_memory (LackCut c.args.office.now c.args.order.now c.args.tally.now c.args.works.now) old old c.from_residual-in_err-named.result c.from_residual-in_err-named.ensures.1

pub returns-clause-err : goal.returns-clause-err
returns-clause-err g c =
    let o = c.args.office.now in
    let tally = c.args.tally.now in
    let works = c.args.works.now in
    let cut = c.args.order.now.cut in
    let named = c.in_ok-named.named in
    let old = state g.S.Store c.args.tx.now.conn.now in
    let senders = λ (s : List ℕ). c.in_ok-named.ensures.senders s ∙ ap (λ keys. is_of_cut keys s) c.cut.ensures.value in
    let listed = λ (q : List ℕ) (is : is_tallied tally q ≡ true). c.in_ok-named.ensures.listed q (ap (λ (xs : List (List ℕ)). list_any (bytes_eq q) xs) c.as_slice.ensures.value ∙ sym (c.in_ok-recordings.ensures.tallied q) ∙ is) in
    errs_where (LackSenders o cut (is_tallied tally) named) (LackCut o c.args.order.now tally works) old (state g.S.Store c.candidates_of.new.tx.conn.now) c.candidates_of.result (rw c.cut-2.ensures.value at c.candidates_of.ensures.err)
    (λ no lists b holds reached. no b holds (recordings_noted cut (is_tallied tally) old.now.trees works.listed named lists senders listed) (all_asked named cut (λ s h. senders s ∙ h)) reached)
