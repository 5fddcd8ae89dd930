use Rattle.std.proofs.Common.{◌≡◌, ◌∙◌, ◌+◌, ◌++◌, ◌∷◌, [], List, Ok, ap, flat_map, subst, sym, take, true, rules}
use Rattle.std.proofs.lemmas.List.{take_all, take_more}
use Rattle.society_book.proofs.lemmas.together.StepLemmas.{looks_as, looks_then}
use Rattle.society_closings.proofs.lemmas.cuts.FaultLemmas.{errs_passed, looks_failed}
use Rattle.society_closings.specs.Blamed.{LackSender, LackSenders}
use Rattle.society_closings.specs.CutWorks.{notes_of_sender}
use Rattle.society_core.proofs.lemmas.CandidateLemmas.{all_at, works_push}
use Rattle.society_core.specs.Book.{is_applied}
use Rattle.society_core.specs.Candidates.{StandFor}
use Rattle.society_core.specs.Owners.{CutWork, versions_at_cut}
use Rattle.society_core.specs.Points.{is_tallied}
use Rattle.society_core.specs.Pools.{holders_of}
use Rattle.society_core.specs.declared.transmission_key.TransmissionKey.{TransmissionKey}
use Rattle.sqlite.specs.Held.{state}
use Rattle.society_closings.proofs.cut_works.candidates_of.Goals as goal

pub loop-key-preserved : goal.loop-key-preserved
loop-key-preserved g c =
    let o = c.args.weighing.now.office.now in
    let of_these = is_tallied c.args.weighing.now.tally.now in
    let named = c.args.named.now in
    let cut = c.args.cut.now in
    let i = c.loop-key.key-index in
    let key = c.key-item.result in
    let so_far = take i cut in
    let next : take (i + 1) cut ≡ so_far ++ key ∷ [] = take_more cut i key c.loop-key-test.true ∙ ap (λ (k : TransmissionKey). so_far ++ k ∷ []) (sym c.key-item.is) in
    record {
      same_reference = c.add_sender.ensures.looks.same_reference ∙ c.loop-key.invariant.same_reference;
      looks = looks_then (state g.S.Store c.args.tx.now.conn.now) (state g.S.Store c.loop-key.tx.conn.now) (state g.S.Store c.add_sender.new.tx.conn.now) tt (Ok tt) _ _ _ c.loop-key.invariant.looks c.in_ok-add_sender.ensures.looks.says
          (λ y first second b holds lent notes asked reached.
          let is_asked : notes_of_sender named key.sender ≡ true = ap (λ (k : TransmissionKey). notes_of_sender named k.sender) c.key-item.is ∙ all_at (λ (k : TransmissionKey). notes_of_sender named k.sender) cut i key asked c.loop-key-test.true in
          let applied : is_applied b key ≡ true = ap (is_applied b) c.key-item.is ∙ all_at (is_applied b) cut i key reached c.loop-key-test.true in
          subst (λ (ws : List CutWork). StandFor (holders_of c.args.weighing.now.kind o) of_these ws c.add_sender.new.candidates.items)
          (sym (ap (flat_map (versions_at_cut o b)) next ∙ works_push o b so_far key))
          (second b holds lent notes is_asked applied (flat_map (versions_at_cut o b) so_far) (first b holds lent notes asked reached)));
    }

pub returns-clause-looks : goal.returns-clause-looks
returns-clause-looks g c = record {
  same_reference = search rules;
  says =
      let o = c.args.weighing.now.office.now in
      let cut = c.args.cut.now in
      looks_as (state g.S.Store c.args.tx.now.conn.now) (state g.S.Store c.loop-key.tx.conn.now) tt (Ok c.loop-key.candidates) _ _ c.loop-key.invariant.looks
      (λ first b holds lent notes asked reached. subst (λ (keys : List TransmissionKey). StandFor (holders_of c.args.weighing.now.kind o) (is_tallied c.args.weighing.now.tally.now) (flat_map (versions_at_cut o b) keys) c.loop-key.candidates.items) (take_all c.loop-key.key-index cut c.loop-key-test.false) (first b holds lent notes asked reached));
}

pub returns-in_err-add_sender-clause-looks : goal.returns-in_err-add_sender-clause-looks
returns-in_err-add_sender-clause-looks g c = record {
  same_reference = search rules;
  says =
      looks_failed (Unit {0}) (state g.S.Store c.args.tx.now.conn.now) (state g.S.Store c.loop-key.tx.conn.now) (state g.S.Store c.add_sender.new.tx.conn.now) tt _ c.from_residual.result _ _ _
      c.loop-key.invariant.looks c.in_err-add_sender.ensures.looks.says c.from_residual.ensures.1;
}

pub returns-in_err-add_sender-clause-err : goal.returns-in_err-add_sender-clause-err
returns-in_err-add_sender-clause-err g c =
    let o = c.args.weighing.now.office.now in
    let of_these = is_tallied c.args.weighing.now.tally.now in
    let named = c.args.named.now in
    let cut = c.args.cut.now in
    let i = c.loop-key.key-index in
    let key = c.key-item.result in
    errs_passed (Unit {0}) (LackSender o key of_these named) (LackSenders o cut of_these named) (state g.S.Store c.args.tx.now.conn.now) (state g.S.Store c.loop-key.tx.conn.now) (state g.S.Store c.add_sender.new.tx.conn.now) tt _ c.from_residual.result _ _
    c.loop-key.invariant.looks c.in_err-add_sender.ensures.looks.says c.in_err-add_sender.ensures.err c.from_residual.ensures.1
    (λ first no b holds notes asked reached. no b holds notes
    (ap (λ (k : TransmissionKey). notes_of_sender named k.sender) c.key-item.is ∙ all_at (λ (k : TransmissionKey). notes_of_sender named k.sender) cut i key asked c.loop-key-test.true)
    (ap (is_applied b) c.key-item.is ∙ all_at (is_applied b) cut i key reached c.loop-key-test.true))
