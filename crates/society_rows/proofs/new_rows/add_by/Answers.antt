use Rattle.std.proofs.Common.{refl, rules}
use Rattle.sqlite.specs.Held.{state}
use Rattle.society_rows.specs.NewRows.{rows_added, insert_text, one_after_another}
use Rattle.society_rows.specs.Stored.{HasLayout, Adds}
use Rattle.society_rows.specs.TableNames.{table_called}
use Rattle.society_rows.proofs.lemmas.changes.EachInsert.{inserted, settled}
use Rattle.society_rows.proofs.lemmas.changes.Effects.{writes_by}
use Rattle.society_rows.proofs.lemmas.changes.Inserts.{adds}
use Rattle.society_rows.proofs.lemmas.errors.Blamed.{statement_blames}
use Rattle.society_rows.proofs.lemmas.errors.Told.{statement_tells}
use Rattle.society_rows.proofs.lemmas.errors.Writings.{insert_codes}
use Rattle.society_rows.proofs.new_rows.add_by.Goals as goal

pub returns-clause-written : goal.returns-clause-written
returns-clause-written g c = record {
  same_reference = search rules;
  says =
      let it = rows_added c.args.rows in
      let old = state g.S.Store c.args.tx.now.conn.now in
      let new = state g.S.Store c.run.new.tx.conn.now in
      writes_by HasLayout old new (insert_text c.args.rows) (one_after_another it.rows) c.run.result (Adds (table_called it.table) it.rows) (λ clean inside. rw (c.insert_of.ensures, c.requires) at (c.run.ensures.ran clean inside)) c.run.ensures.survives
      (λ count. adds (settled it.table) (inserted c.args.rows) old new count);
}

pub returns-clause-err : goal.returns-clause-err
returns-clause-err g c =
    let it = rows_added c.args.rows in
    let old = state g.S.Store c.args.tx.now.conn.now in
    let new = state g.S.Store c.run.new.tx.conn.now in
    statement_tells HasLayout (insert_text c.args.rows) (one_after_another it.rows) old new c.run.result c.run.ensures.ended (λ clean inside. rw (c.insert_of.ensures, c.requires) at (c.run.ensures.ran clean inside))
    (insert_codes (insert_text c.args.rows) (settled it.table) (inserted c.args.rows).is (one_after_another it.rows) refl old new)

pub returns-clause-blamed : goal.returns-clause-blamed
returns-clause-blamed g c =
    let it = rows_added c.args.rows in
    let old = state g.S.Store c.args.tx.now.conn.now in
    let new = state g.S.Store c.run.new.tx.conn.now in
    statement_blames HasLayout (insert_text c.args.rows) (one_after_another it.rows) old new c.run.result (λ clean inside. rw (c.insert_of.ensures, c.requires) at (c.run.ensures.ran clean inside))
    (insert_codes (insert_text c.args.rows) (settled it.table) (inserted c.args.rows).is (one_after_another it.rows) refl old new)
