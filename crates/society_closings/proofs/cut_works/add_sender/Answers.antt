use Rattle.std.proofs.Common.{◌∙◌, List, ℕ, ap, bytes_eq, rules}
use Rattle.std.specs.List.{list_any}
use Rattle.society_book.proofs.lemmas.together.ErrLemmas.{errs_on, errs_then}
use Rattle.society_book.proofs.lemmas.together.StepLemmas.{looks_then}
use Rattle.society_closings.proofs.lemmas.cuts.CutNames.{chosen_right}
use Rattle.society_closings.proofs.lemmas.cuts.FaultLemmas.{errs_memory}
use Rattle.society_closings.specs.Blamed.{HoldNoWorks, LackChosen, LackSender}
use Rattle.society_closings.specs.declared.chosen.Chosen.{Chosen}
use Rattle.society_core.specs.Points.{is_tallied}
use Rattle.sqlite.specs.Held.{state}
use Rattle.society_closings.proofs.cut_works.add_sender.Goals as goal

pub returns-clause-looks : goal.returns-clause-looks
returns-clause-looks g c = record {
  same_reference = search rules;
  says =
      let o = c.args.weighing.now.office.now in
      let key = c.args.key.now in
      let works = c.as_slice.result.now in
      let noted = λ (w : List ℕ). ap (λ (xs : List (List ℕ)). list_any (bytes_eq w) xs) c.as_slice.ensures.value ∙ c.in_ok-works.ensures w in
      looks_then (state g.S.Store c.args.tx.now.conn.now) (state g.S.Store c.chosen_of.new.tx.conn.now) (state g.S.Store c.add_transmissions.new.tx.conn.now) c.in_ok-chosen.chosen c.add_transmissions.result _ _ _ c.in_ok-chosen.ensures.looks.says c.add_transmissions.ensures.looks.says
      (λ y first second b holds lent notes asked within. second b holds lent
      (chosen_right o b _ holds key.sender (is_tallied c.args.weighing.now.tally.now) c.args.named.now (λ w. list_any (bytes_eq w) works) c.in_ok-chosen.chosen key.number notes asked within noted (first o b holds within)));
}

pub returns-in_err-works-clause-err : goal.returns-in_err-works-clause-err
returns-in_err-works-clause-err g c =
    let old = state g.S.Store c.args.tx.now.conn.now in
    errs_memory (LackSender c.args.weighing.now.office.now c.args.key.now (is_tallied c.args.weighing.now.tally.now) c.args.named.now) old old c.from_residual.result c.from_residual.ensures.1

pub returns-in_err-chosen-clause-err : goal.returns-in_err-chosen-clause-err
returns-in_err-chosen-clause-err g c =
    let o = c.args.weighing.now.office.now in
    errs_on Chosen HoldNoWorks (LackSender o c.args.key.now (is_tallied c.args.weighing.now.tally.now) c.args.named.now) (state g.S.Store c.args.tx.now.conn.now) (state g.S.Store c.chosen_of.new.tx.conn.now) _ c.from_residual-in_err-chosen.result
    c.in_err-chosen.ensures.err c.from_residual-in_err-chosen.ensures.1 (λ no b holds notes asked within. no o b holds)

pub returns-clause-err : goal.returns-clause-err
returns-clause-err g c =
    let o = c.args.weighing.now.office.now in
    let key = c.args.key.now in
    let of_these = is_tallied c.args.weighing.now.tally.now in
    let works = c.as_slice.result.now in
    let noted = λ (w : List ℕ). ap (λ (xs : List (List ℕ)). list_any (bytes_eq w) xs) c.as_slice.ensures.value ∙ c.in_ok-works.ensures w in
    errs_then (LackChosen o key of_these c.in_ok-chosen.chosen) (LackSender o key of_these c.args.named.now) (state g.S.Store c.args.tx.now.conn.now) (state g.S.Store c.chosen_of.new.tx.conn.now) (state g.S.Store c.add_transmissions.new.tx.conn.now) c.in_ok-chosen.chosen c.add_transmissions.result _
    c.in_ok-chosen.ensures.looks.says c.add_transmissions.ensures.looks.says.survives c.add_transmissions.ensures.err
    (λ first no b holds notes asked within. no b holds (chosen_right o b _ holds key.sender of_these c.args.named.now (λ w. list_any (bytes_eq w) works) c.in_ok-chosen.chosen key.number notes asked within noted (first o b holds within)))
