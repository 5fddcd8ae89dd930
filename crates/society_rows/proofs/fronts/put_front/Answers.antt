use Rattle.std.proofs.Common.{refl, rules}
use Rattle.sqlite.specs.Held.{state}
use Rattle.society_rows.specs.declared.tables.TableName.TheVariants as name
use Rattle.society_rows.specs.Layout.{fronts, written_out}
use Rattle.society_rows.specs.Rows.{front_values}
use Rattle.society_rows.specs.Stored.{HasLayout, Puts}
use Rattle.society_rows.proofs.lemmas.changes.EachInsert.{settled}
use Rattle.society_rows.proofs.lemmas.changes.EachPut.{front_put, put_front_text}
use Rattle.society_rows.proofs.lemmas.changes.Effects.{writes_by}
use Rattle.society_rows.proofs.lemmas.changes.UpsertParts.{puts}
use Rattle.society_rows.proofs.lemmas.errors.Blamed.{statement_blames}
use Rattle.society_rows.proofs.lemmas.errors.Told.{statement_tells}
use Rattle.society_rows.proofs.lemmas.errors.Writings.{insert_or_codes}
use Rattle.society_rows.proofs.fronts.put_front.Goals as goal

pub returns-clause-written : goal.returns-clause-written
unfolding settled written_out
returns-clause-written g c = record {
  same_reference = search rules;
  says =
      let row = c.args.row.now in
      let old = state g.S.Store c.args.tx.now.conn.now in
      let new = state g.S.Store c.run.new.tx.conn.now in
      writes_by HasLayout old new put_front_text (front_values row) c.run.result (Puts fronts (front_values row)) (λ clean inside. rw c.params.ensures at (c.run.ensures.ran clean inside)) c.run.ensures.survives
      (λ count. puts (settled name.Fronts) (λ cuts payments. refl) (front_put row) old new count);
}

pub returns-clause-err : goal.returns-clause-err
unfolding written_out
returns-clause-err g c =
    let row = c.args.row.now in
    let old = state g.S.Store c.args.tx.now.conn.now in
    let new = state g.S.Store c.run.new.tx.conn.now in
    statement_tells HasLayout put_front_text (front_values row) old new c.run.result c.run.ensures.ended (λ clean inside. rw c.params.ensures at (c.run.ensures.ran clean inside))
    (insert_or_codes put_front_text (settled name.Fronts) (front_put row).is (front_values row) refl old new)

pub returns-clause-blamed : goal.returns-clause-blamed
unfolding written_out
returns-clause-blamed g c =
    let row = c.args.row.now in
    let old = state g.S.Store c.args.tx.now.conn.now in
    let new = state g.S.Store c.run.new.tx.conn.now in
    statement_blames HasLayout put_front_text (front_values row) old new c.run.result (λ clean inside. rw c.params.ensures at (c.run.ensures.ran clean inside))
    (insert_or_codes put_front_text (settled name.Fronts) (front_put row).is (front_values row) refl old new)
