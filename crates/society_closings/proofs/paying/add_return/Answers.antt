use Rattle.std.proofs.Common.{Ok, subst, sym, Err, rules}
use Rattle.std.specs.Prelude.{Vec}
use Rattle.std.specs.declared.alloc.Global.{Global}
use Rattle.share_rules.specs.declared.office.Office.{Office}
use Rattle.society_book.proofs.lemmas.rows_alike.KeyRows.{refilled_by, return_shows_by}
use Rattle.society_book.proofs.lemmas.together.ErrLemmas.{blames_where, errs_as, errs_of, errs_on}
use Rattle.society_book.proofs.lemmas.together.StepLemmas.{looks_as, looks_of}
use Rattle.society_book.specs.Shown.{ShowBody}
use Rattle.society_book.specs.Sources.{HoldsWorks}
use Rattle.society_closings.proofs.lemmas.cuts.BodyRows.{return_shown}
use Rattle.society_closings.proofs.lemmas.money.Payments.{counted_by}
use Rattle.society_closings.specs.Blamed.{LackReturn}
use Rattle.society_closings.specs.Readable.{ShowReturn}
use Rattle.society_core.specs.Book.{Book, return_at}
use Rattle.society_core.specs.Candidates.{rows_of_return}
use Rattle.sqlite.specs.Held.{state}
use Rattle.sqlite_value.specs.Order.{Row}
use Rattle.society_closings.proofs.paying.add_return.Goals as goal

pub returns-clause-looks : goal.returns-clause-looks
returns-clause-looks g c = record {
  same_reference = search rules;
  says =
      let key = c.args.key.now in
      let old = state g.S.Store c.args.tx.now.conn.now in
      let new = state g.S.Store c.answer.new.tx.conn.now in
      looks_as old new _ c.add_performances.result _ _ (looks_of old new (Ok _) _ (rw (c.as_bytes.ensures.bytes, c.value.ensures.value) at c.in_ok-rows.ensures.read.says))
      (λ lists.
      let shows : (o : Office) (b : Book) → HoldsWorks o b old.now.trees → ShowBody (return_at b key) c.as_slice.result.now = λ o b holds. subst (ShowBody (return_at b key)) (sym c.as_slice.ensures.value) (return_shows_by b _ holds.kept.returns key (refilled_by key.reporter _ c.as_bytes.ensures.bytes c.as_bytes.ensures.back) _ lists) in
      counted_by c.add_performances.result old.now.trees c.args.tally.now c.add_performances.new.tally (λ b. rows_of_return b key)
      (λ o b before holds. c.add_performances.ensures.counted (return_at b key) before (shows o b holds))
      (λ o b holds. c.add_performances.ensures.limit (return_at b key) (shows o b holds)));
}

pub returns-in_err-rows-clause-err : goal.returns-in_err-rows-clause-err
returns-in_err-rows-clause-err g c =
    let Wrong = LackReturn c.args.key.now in
    let old = state g.S.Store c.args.tx.now.conn.now in
    let new = state g.S.Store c.answer.new.tx.conn.now in
    errs_on (Vec Row Global) Wrong Wrong old new _ c.from_residual.result (errs_of {X = Vec Row Global} Wrong old new (Err _) c.in_err-rows.ensures.err c.in_err-rows.ensures.medium) c.from_residual.ensures.1 (λ h. h)

pub returns-clause-err : goal.returns-clause-err
returns-clause-err g c =
    let key = c.args.key.now in
    let rows = c.as_slice.result.now in
    let old = state g.S.Store c.args.tx.now.conn.now in
    let new = state g.S.Store c.answer.new.tx.conn.now in
    errs_as (LackReturn key) old new _ c.add_performances.result _ (looks_of old new (Ok _) _ (rw (c.as_bytes.ensures.bytes, c.value.ensures.value) at c.in_ok-rows.ensures.read.says))
    (λ lists. blames_where (ShowReturn rows → ⊥) (LackReturn key old.now.trees) c.add_performances.result c.add_performances.ensures.blames
    (λ no o b holds there. no (return_shown o b old.now.trees holds key (refilled_by key.reporter _ c.as_bytes.ensures.bytes c.as_bytes.ensures.back) there _ rows lists c.as_slice.ensures.value)))
