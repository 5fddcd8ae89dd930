use Rattle.std.proofs.Common.{◌↔◌, IsTrue, Ok, Err, rules}
use Rattle.sqlite.specs.Held.{state}
use Rattle.society_rows.specs.Layouts.{HasTable}
use Rattle.society_rows.specs.Stored.{AreNumbered}
use Rattle.society_rows.specs.TableNames.{table_called}
use Rattle.society_rows.proofs.lemmas.changes.Effects.{handed_on}
use Rattle.society_rows.proofs.lemmas.errors.Told.{query_errs, query_tells}
use Rattle.society_rows.proofs.lemmas.readings.Queries.{reads}
use Rattle.society_rows.proofs.lemmas.readings.RowidQueries.{numbered_by, reads_of, reads_not}
use Rattle.society_rows.proofs.lemmas.readings.TableQueries.{numbered}
use Rattle.society_rows.proofs.numbering.are_numbered.Goals as goal

pub returns-in_err-rows-clause-read : goal.returns-in_err-rows-clause-read
returns-in_err-rows-clause-read g c = record {
  same_reference = search rules;
  says =
      let table = c.args.table in
      let old = state g.S.Store c.args.tx.now.conn.now in
      let new = state g.S.Store c.select.new.tx.conn.now in
      let fault = c.in_err-rows.field-0.0 in
      reads_not (HasTable table) old new fault c.from_residual.result _ (λ db yes. IsTrue yes ↔ AreNumbered (table_called table) db)
      (reads (numbered table) old new (Err fault) (λ clean. rw c.shape_of.ensures.rowids at (c.in_err-rows.ensures.selected clean)) c.in_err-rows.ensures.survives) c.from_residual.ensures.1;
}

pub returns-in_err-rows-clause-err : goal.returns-in_err-rows-clause-err
returns-in_err-rows-clause-err g c = λ clean has.
    handed_on c.in_err-rows.field-0.0 c.from_residual.result _ c.from_residual.ensures.1
    (query_tells (numbered c.args.table) (state g.S.Store c.args.tx.now.conn.now) (state g.S.Store c.select.new.tx.conn.now) (Err c.in_err-rows.field-0.0) (λ clean. rw c.shape_of.ensures.rowids at (c.in_err-rows.ensures.selected clean)) clean has)

pub returns-in_err-rows-clause-medium : goal.returns-in_err-rows-clause-medium
returns-in_err-rows-clause-medium g c = λ clean has.
    handed_on c.in_err-rows.field-0.0 c.from_residual.result _ c.from_residual.ensures.1
    (query_errs (numbered c.args.table) (state g.S.Store c.args.tx.now.conn.now) (state g.S.Store c.select.new.tx.conn.now) (Err c.in_err-rows.field-0.0) (λ clean. rw c.shape_of.ensures.rowids at (c.in_err-rows.ensures.selected clean)) clean has)

pub returns-clause-read : goal.returns-clause-read
returns-clause-read g c = record {
  same_reference = search rules;
  says =
      let table = c.args.table in
      let old = state g.S.Store c.args.tx.now.conn.now in
      let new = state g.S.Store c.select.new.tx.conn.now in
      let rows = c.in_ok-rows.rows in
      reads_of (HasTable table) old new rows c.begin_whole.result _ (λ db yes. IsTrue yes ↔ AreNumbered (table_called table) db)
      (reads (numbered table) old new (Ok rows) (λ clean. rw c.shape_of.ensures.rowids at (c.in_ok-rows.ensures.selected clean)) c.in_ok-rows.ensures.survives)
      (λ found. rw (c.begin_whole.ensures, c.deref.ensures.value) (numbered_by (old.now.trees (table_called table).tree) rows.items found));
}
