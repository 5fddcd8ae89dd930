use Rattle.std.proofs.Common.{Ok, [], ◌∷◌, Err, rules}
use Rattle.std.specs.List.{AllByRecursion}
use Rattle.std.specs.Prelude.{Vec}
use Rattle.std.specs.declared.alloc.Global.{Global}
use Rattle.society_book.proofs.lemmas.together.ErrLemmas.{blames_on, errs_as, errs_of, errs_on}
use Rattle.society_book.proofs.lemmas.together.StepLemmas.{looks_as, looks_of}
use Rattle.society_closings.proofs.lemmas.cuts.CutLists.{sender_listed}
use Rattle.society_closings.proofs.lemmas.cuts.FaultLemmas.{listed_hold}
use Rattle.society_closings.proofs.lemmas.cuts.ReadRows.{recordings_readable}
use Rattle.society_closings.specs.Blamed.{HoldNoWorks}
use Rattle.society_closings.specs.Readable.{IsRecordingRow}
use Rattle.society_rows.specs.Layout as layout
use Rattle.society_rows.specs.Reads.{has_key}
use Rattle.sqlite.specs.Held.{state}
use Rattle.sqlite_value.specs.Order.{Row}
use Rattle.sqlite_value.specs.declared.value.Value.TheVariants.{Text}
use Rattle.society_closings.proofs.works_by_recording.WorksByRecording.list_sender.Goals as goal

pub returns-clause-looks : goal.returns-clause-looks
returns-clause-looks g c = record {
  same_reference = search rules;
  says =
      let old = state g.S.Store c.args.tx.now.conn.now in
      let new = state g.S.Store c.answer.new.tx.conn.now in
      looks_as old new c.in_ok-rows.rows (Ok tt) _ _ (looks_of old new (Ok c.in_ok-rows.rows) _ (rw c.as_bytes.ensures.bytes at c.in_ok-rows.ensures.read.says))
      (λ lists. sender_listed c.args.wanted.now c.list_rows.new.self c.args.sender.now old.now.trees _ _ c.as_bytes.ensures.key lists c.as_slice.ensures.value c.in_ok-list_rows.ensures.listed);
}

pub returns-in_err-rows-clause-err : goal.returns-in_err-rows-clause-err
returns-in_err-rows-clause-err g c =
    let old = state g.S.Store c.args.tx.now.conn.now in
    let new = state g.S.Store c.answer.new.tx.conn.now in
    errs_on (Vec Row Global) HoldNoWorks HoldNoWorks old new _ c.from_residual.result (errs_of {X = Vec Row Global} HoldNoWorks old new (Err _) c.in_err-rows.ensures.err c.in_err-rows.ensures.medium) c.from_residual.ensures.1 (λ h. h)

pub returns-in_err-list_rows-clause-err : goal.returns-in_err-list_rows-clause-err
returns-in_err-list_rows-clause-err g c =
    let old = state g.S.Store c.args.tx.now.conn.now in
    let new = state g.S.Store c.answer.new.tx.conn.now in
    let rows = c.as_slice.result.now in
    errs_as HoldNoWorks old new c.in_ok-rows.rows c.from_residual-in_err-list_rows.result _ (looks_of old new (Ok c.in_ok-rows.rows) _ c.in_ok-rows.ensures.read.says)
    (λ lists. blames_on c.from_residual-in_err-list_rows.result _ (AllByRecursion IsRecordingRow rows → ⊥) (HoldNoWorks old.now.trees) c.from_residual-in_err-list_rows.ensures.1 c.in_err-list_rows.ensures.blames
    (λ no o b holds. no (listed_hold IsRecordingRow layout.recordings (has_key (Text c.as_bytes.result.now ∷ [])) 4 old.now.trees _ rows lists c.as_slice.ensures.value (recordings_readable o b old.now.trees holds))))
