use Rattle.std.proofs.Common.{◌≡◌, ◌∙◌, ◌+◌, ◌++◌, ◌∷◌, [], List, ℕ, Ok, ap, subst, sym, take, rules}
use Rattle.std.proofs.lemmas.Grind.{flat_map-append}
use Rattle.std.proofs.lemmas.List.{append-nil, take_all, take_more}
use Rattle.society_book.proofs.lemmas.together.StepLemmas.{looks_as, looks_then}
use Rattle.society_closings.proofs.lemmas.cuts.CutSets.{listed_within, set_adds, versions_in}
use Rattle.society_closings.proofs.lemmas.cuts.FaultLemmas.{errs_memory, errs_passed, looks_failed}
use Rattle.society_closings.specs.Blamed.{LackChosen, LackNumber}
use Rattle.society_core.proofs.lemmas.CandidateLemmas.{adds_then}
use Rattle.society_core.specs.Candidates.{AddsCandidates, transactions_sent}
use Rattle.society_core.specs.Owners.{CutWork, versions_of_transmission}
use Rattle.society_core.specs.Points.{is_tallied}
use Rattle.society_core.specs.Pools.{holders_of}
use Rattle.sqlite.specs.Held.{state}
use Rattle.society_closings.proofs.cut_works.add_transmissions.Goals as goal

pub loop-number-preserved : goal.loop-number-preserved
loop-number-preserved g c =
    let o = c.args.weighing.now.office.now in
    let key = c.args.key.now in
    let of_these = is_tallied c.args.weighing.now.tally.now in
    let all = c.as_slice-number-items.result.now in
    let i = c.loop-number.number-index in
    let n = c.number-item.result in
    let first_list = c.args.candidates.now.items in
    let mid_list = c.loop-number.candidates.items in
    let new_list = c.add_transmission.new.candidates.items in
    let next : take (i + 1) all ≡ take i all ++ n ∷ [] = take_more all i n c.loop-number-test.true ∙ ap (λ (k : ℕ). take i all ++ k ∷ []) (sym c.number-item.is) in
    record {
      same_reference = c.add_transmission.ensures.looks.same_reference ∙ c.loop-number.invariant.same_reference;
      looks = looks_then (state g.S.Store c.args.tx.now.conn.now) (state g.S.Store c.loop-number.tx.conn.now) (state g.S.Store c.add_transmission.new.tx.conn.now) tt (Ok tt) _ _ _ c.loop-number.invariant.looks c.in_ok-add_transmission.ensures.looks.says
          (λ y first second b holds lent right.
          let f = λ (k : ℕ). versions_of_transmission o b key k (transactions_sent b key.sender k) in
          let within = listed_within o b key of_these c.args.chosen.now right all i n (c.as_slice-number-items.ensures.value ∙ c.in_ok-numbers.ensures.numbers) c.number-item.is c.loop-number-test.true in
          subst (λ (ws : List CutWork). AddsCandidates (holders_of c.args.weighing.now.kind o) of_these ws first_list new_list)
          (ap (λ (ws : List CutWork). versions_in o b key (take i all) ++ ws) (sym (append-nil (f n))) ∙ sym (ap (versions_in o b key) next ∙ flat_map-append f (take i all) (n ∷ [])))
          (adds_then (holders_of c.args.weighing.now.kind o) of_these (versions_in o b key (take i all)) (f n) first_list mid_list new_list (first b holds lent right) (second b holds lent within right)));
    }

pub returns-clause-looks : goal.returns-clause-looks
returns-clause-looks g c = record {
  same_reference = search rules;
  says =
      let o = c.args.weighing.now.office.now in
      let key = c.args.key.now in
      let all = c.as_slice-number-items.result.now in
      let old_list = c.args.candidates.now.items in
      let new_list = c.loop-number.candidates.items in
      let named : take c.loop-number.number-index all ≡ c.args.chosen.now.transmissions.keys = take_all c.loop-number.number-index all c.loop-number-test.false ∙ c.as_slice-number-items.ensures.value ∙ c.in_ok-numbers.ensures.numbers in
      looks_as (state g.S.Store c.args.tx.now.conn.now) (state g.S.Store c.loop-number.tx.conn.now) tt (Ok tt) _ _ c.loop-number.invariant.looks
      (λ first b holds lent right.
      set_adds (holders_of c.args.weighing.now.kind o) o b key (is_tallied c.args.weighing.now.tally.now) c.args.chosen.now right c.transmissions.ensures.ordered old_list new_list
      (subst (λ (ns : List ℕ). AddsCandidates (holders_of c.args.weighing.now.kind o) (is_tallied c.args.weighing.now.tally.now) (versions_in o b key ns) old_list new_list) named (first b holds lent right)));
}

pub returns-in_err-numbers-clause-err : goal.returns-in_err-numbers-clause-err
returns-in_err-numbers-clause-err g c =
    let old = state g.S.Store c.args.tx.now.conn.now in
    errs_memory (LackChosen c.args.weighing.now.office.now c.args.key.now (is_tallied c.args.weighing.now.tally.now) c.args.chosen.now) old old c.from_residual.result c.from_residual.ensures.1

pub returns-in_err-add_transmission-clause-looks : goal.returns-in_err-add_transmission-clause-looks
returns-in_err-add_transmission-clause-looks g c = record {
  same_reference = search rules;
  says =
      looks_failed (Unit {0}) (state g.S.Store c.args.tx.now.conn.now) (state g.S.Store c.loop-number.tx.conn.now) (state g.S.Store c.add_transmission.new.tx.conn.now) tt _ c.from_residual-in_err-add_transmission.result _ _ _
      c.loop-number.invariant.looks c.in_err-add_transmission.ensures.looks.says c.from_residual-in_err-add_transmission.ensures.1;
}

pub returns-in_err-add_transmission-clause-err : goal.returns-in_err-add_transmission-clause-err
returns-in_err-add_transmission-clause-err g c =
    let o = c.args.weighing.now.office.now in
    let key = c.args.key.now in
    let of_these = is_tallied c.args.weighing.now.tally.now in
    let all = c.as_slice-number-items.result.now in
    let i = c.loop-number.number-index in
    let n = c.number-item.result in
    errs_passed (Unit {0}) (LackNumber o key n) (LackChosen o key of_these c.args.chosen.now) (state g.S.Store c.args.tx.now.conn.now) (state g.S.Store c.loop-number.tx.conn.now) (state g.S.Store c.add_transmission.new.tx.conn.now) tt _ c.from_residual-in_err-add_transmission.result _ _
    c.loop-number.invariant.looks c.in_err-add_transmission.ensures.looks.says c.in_err-add_transmission.ensures.err c.from_residual-in_err-add_transmission.ensures.1
    (λ first no b holds right. no b holds (listed_within o b key of_these c.args.chosen.now right all i n (c.as_slice-number-items.ensures.value ∙ c.in_ok-numbers.ensures.numbers) c.number-item.is c.loop-number-test.true))
