use Rattle.std.proofs.Common.{[], IfSome, List, ℕ, Ok, Option, option_map, subst, sym, unwrap_or, Err, rules}
use Rattle.std.specs.Prelude.{Vec}
use Rattle.std.specs.declared.alloc.Global.{Global}
use Rattle.cwr_files.specs.Contents.{transactions_of, transmission_in}
use Rattle.society_book.proofs.lemmas.rows_alike.KeyRows.{transmission_shows_by}
use Rattle.society_book.proofs.lemmas.together.ErrLemmas.{blames_where, errs_as, errs_of, errs_on}
use Rattle.society_book.proofs.lemmas.together.StepLemmas.{looks_as, looks_of, more, nothing}
use Rattle.society_book.specs.Shown.{ShowBody}
use Rattle.society_closings.proofs.lemmas.cuts.BodyRows.{transmission_shown}
use Rattle.society_closings.proofs.lemmas.cuts.CutCandidates.{chosen_adds, shown_all}
use Rattle.society_closings.proofs.lemmas.cuts.FaultLemmas.{errs_memory}
use Rattle.society_closings.proofs.lemmas.cuts.Weighed.{weighed_adds}
use Rattle.society_closings.specs.Blamed.{LackNumber}
use Rattle.society_closings.specs.CutWorks.{works_chosen}
use Rattle.society_closings.specs.Weighing.{LendsVersions}
use Rattle.society_book.specs.Readable.{ShowTransmission}
use Rattle.society_core.specs.Book.{body_at}
use Rattle.society_core.specs.Candidates.{AddsCandidates, transactions_sent}
use Rattle.society_core.specs.Keys.{transmission_key}
use Rattle.society_core.specs.Points.{is_tallied}
use Rattle.society_core.specs.Pools.{holders_of}
use Rattle.sqlite.specs.Held.{state}
use Rattle.sqlite_value.specs.Order.{Row}
use Rattle.society_closings.proofs.cut_works.add_transmission.Goals as goal

pub returns-clause-looks : goal.returns-clause-looks
returns-clause-looks g c = record {
  same_reference = search rules;
  says =
      let o = c.args.weighing.now.office.now in
      let key = c.args.key.now in
      let n = c.args.number in
      let of_these = is_tallied c.args.weighing.now.tally.now in
      let chosen = c.args.chosen.now in
      let rows = c.as_slice.result.now in
      let old_list = c.args.candidates.now.items in
      let new_list = c.add_shown.new.candidates.items in
      let P : Option (List ℕ) → Type 0 = λ kept. AddsCandidates (holders_of c.args.weighing.now.kind o) of_these (works_chosen chosen key.sender n 0 (transactions_of (transmission_in (unwrap_or kept [])))) old_list new_list in
      looks_as (state g.S.Store c.args.tx.now.conn.now) (state g.S.Store c.answer.new.tx.conn.now) _ c.add_shown.result _ _ (looks_of _ _ (Ok _) _ (rw (c.as_bytes.ensures.bytes, c.value.ensures.value) at c.in_ok-rows.ensures.read.says))
      (λ lists. more c.add_shown.result
      (λ y adds b holds lent within right. chosen_adds o b key of_these chosen right (holders_of c.args.weighing.now.kind o) n old_list new_list within
      (adds (body_at b key.sender n) (subst (ShowBody (body_at b key.sender n)) (sym c.as_slice.ensures.value) (transmission_shows_by b _ holds.kept.transmissions (transmission_key key.sender n) _ lists))))
      (shown_all c.add_shown.result rows P c.add_shown.ensures.adds));
}

pub returns-in_err-rows-clause-err : goal.returns-in_err-rows-clause-err
returns-in_err-rows-clause-err g c =
    let Wrong = LackNumber c.args.weighing.now.office.now c.args.key.now c.args.number in
    let old = state g.S.Store c.args.tx.now.conn.now in
    let new = state g.S.Store c.answer.new.tx.conn.now in
    errs_on (Vec Row Global) Wrong Wrong old new _ c.from_residual-in_err-rows.result (errs_of {X = Vec Row Global} Wrong old new (Err _) c.in_err-rows.ensures.err c.in_err-rows.ensures.medium) c.from_residual-in_err-rows.ensures.1 (λ h. h)

pub returns-clause-err : goal.returns-clause-err
returns-clause-err g c =
    let o = c.args.weighing.now.office.now in
    let key = c.args.key.now in
    let n = c.args.number in
    let rows = c.as_slice.result.now in
    let old = state g.S.Store c.args.tx.now.conn.now in
    let new = state g.S.Store c.answer.new.tx.conn.now in
    errs_as (LackNumber o key n) old new _ c.add_shown.result _ (looks_of old new (Ok _) _ (rw (c.as_bytes.ensures.bytes, c.value.ensures.value) at c.in_ok-rows.ensures.read.says))
    (λ lists. blames_where (ShowTransmission key.sender rows → ⊥) (LackNumber o key n old.now.trees) c.add_shown.result c.add_shown.ensures.blames
    (λ no b holds up_to. no (transmission_shown o b old.now.trees holds key.sender key.number n up_to _ rows lists c.as_slice.ensures.value)))

pub returns-in-Some-clause-looks : goal.returns-in-Some-clause-looks
returns-in-Some-clause-looks g c = record {
  same_reference = search rules;
  says =
      let o = c.args.weighing.now.office.now in
      let kind = c.args.weighing.now.kind in
      let key = c.args.key.now in
      let n = c.args.number in
      let of_these = is_tallied c.args.weighing.now.tally.now in
      let chosen = c.args.chosen.now in
      let versions = c.in-Some.versions.now in
      let old = state g.S.Store c.args.tx.now.conn.now in
      let old_list = c.args.candidates.now.items in
      let new_list = c.add_weighed.new.candidates.items in
      nothing old (Ok tt) _
      (λ b holds lent within right. chosen_adds o b key of_these chosen right (holders_of kind o) n old_list new_list within
      (weighed_adds kind o of_these key.sender chosen n (transactions_sent b key.sender n) versions old_list new_list
      (subst (λ found. IfSome found (λ vs. LendsVersions (option_map (λ w. w.now) c.args.weighed) (record { sender = key.sender; number = n }) vs.now)) c.in-Some.is c.versions_lent.ensures kind o of_these old.now.trees b lent holds)
      c.in_ok-add_weighed.ensures));
}

pub returns-in_err-add_weighed-clause-err : goal.returns-in_err-add_weighed-clause-err
returns-in_err-add_weighed-clause-err g c =
    let old = state g.S.Store c.args.tx.now.conn.now in
    errs_memory (LackNumber c.args.weighing.now.office.now c.args.key.now c.args.number) old old c.from_residual.result c.from_residual.ensures.1
