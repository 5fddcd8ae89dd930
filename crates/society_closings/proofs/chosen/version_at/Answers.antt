use Rattle.std.proofs.Common.{◌∙◌, List, Ok, ap, option_map, [], ◌∷◌, Err, rules}
use Rattle.std.specs.List.{AllByRecursion}
use Rattle.std.specs.Prelude.{Vec}
use Rattle.std.specs.declared.alloc.Global.{Global}
use Rattle.society_book.proofs.lemmas.lines.LineRows.{back_by}
use Rattle.society_book.proofs.lemmas.together.ErrLemmas.{blames_where, errs_as, errs_of, errs_on}
use Rattle.society_book.proofs.lemmas.together.StepLemmas.{looks_as, looks_of, more}
use Rattle.society_book.specs.Shown.{version_shown}
use Rattle.society_closings.proofs.lemmas.cuts.CutRows.{row_up_to, version_found}
use Rattle.society_closings.proofs.lemmas.cuts.FaultLemmas.{listed_hold}
use Rattle.society_closings.proofs.lemmas.cuts.ReadRows.{versions_readable}
use Rattle.society_closings.specs.Blamed.{HoldNoWorks}
use Rattle.society_book.specs.Readable.{IsVersionRow}
use Rattle.society_rows.specs.Layout as layout
use Rattle.society_rows.specs.Reads.{has_key}
use Rattle.sqlite.specs.Held.{state}
use Rattle.sqlite_value.specs.Order.{Row}
use Rattle.sqlite_value.specs.declared.value.Value.TheVariants.{Text}
use Rattle.society_closings.proofs.chosen.version_at.Goals as goal

pub returns-clause-looks : goal.returns-clause-looks
returns-clause-looks g c = record {
  same_reference = search rules;
  says =
      let s = c.args.key.now.sender in
      let cut = c.args.key.now.number in
      let w = c.args.work.now in
      let old = state g.S.Store c.args.tx.now.conn.now in
      let new = state g.S.Store c.answer.new.tx.conn.now in
      let back = back_by w c.as_bytes-2.result.now c.as_bytes-2.ensures.bytes c.as_bytes-2.ensures.back in
      looks_as old new _ c.last_up_to.result _ _ (looks_of old new (Ok _) _ (rw (c.as_bytes.ensures.bytes, c.as_bytes-2.ensures.bytes) at c.in_ok-rows.ensures.read.says))
      (λ lists. more c.last_up_to.result
      (λ version is o b holds within. is ∙ ap (λ (rows : List Row). option_map version_shown (row_up_to cut rows)) c.as_slice.ensures.value ∙ version_found o b _ holds s w cut back _ lists)
      c.last_up_to.ensures.version);
}

pub returns-in_err-rows-clause-err : goal.returns-in_err-rows-clause-err
returns-in_err-rows-clause-err g c =
    let old = state g.S.Store c.args.tx.now.conn.now in
    let new = state g.S.Store c.answer.new.tx.conn.now in
    errs_on (Vec Row Global) HoldNoWorks HoldNoWorks old new _ c.from_residual.result (errs_of {X = Vec Row Global} HoldNoWorks old new (Err _) c.in_err-rows.ensures.err c.in_err-rows.ensures.medium) c.from_residual.ensures.1 (λ h. h)

pub returns-clause-err : goal.returns-clause-err
returns-clause-err g c =
    let old = state g.S.Store c.args.tx.now.conn.now in
    let new = state g.S.Store c.answer.new.tx.conn.now in
    let rows = c.as_slice.result.now in
    errs_as HoldNoWorks old new _ c.last_up_to.result _ (looks_of old new (Ok _) _ c.in_ok-rows.ensures.read.says)
    (λ lists. blames_where (AllByRecursion IsVersionRow rows → ⊥) (HoldNoWorks old.now.trees) c.last_up_to.result c.last_up_to.ensures.blames
    (λ no o b holds. no (listed_hold IsVersionRow layout.versions (has_key (Text c.as_bytes.result.now ∷ Text c.as_bytes-2.result.now ∷ [])) 3 old.now.trees _ rows lists c.as_slice.ensures.value (versions_readable o b old.now.trees holds))))
