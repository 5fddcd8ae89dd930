use Rattle.std.proofs.Common.{refl, rules}
use Rattle.sqlite.specs.Held.{state}
use Rattle.society_rows.specs.declared.tables.TableName.TheVariants as name
use Rattle.society_rows.specs.Layout.{written_out}
use Rattle.society_rows.specs.Raising.{Renames}
use Rattle.society_rows.specs.Stored.{HasLayout}
use Rattle.society_rows.proofs.lemmas.changes.Effects.{writes_by}
use Rattle.society_rows.proofs.lemmas.changes.Renaming.{newest, renames, update_is, update_text}
use Rattle.society_rows.proofs.lemmas.changes.EachInsert.{settled}
use Rattle.society_rows.proofs.lemmas.errors.Blamed.{statement_blames}
use Rattle.society_rows.proofs.lemmas.errors.Told.{statement_tells}
use Rattle.society_rows.proofs.lemmas.errors.Writings.{update_codes}
use Rattle.society_rows.proofs.raising.rename.Goals as goal

pub returns-clause-renamed : goal.returns-clause-renamed
returns-clause-renamed g c = record {
  same_reference = search rules;
  says =
      let old = state g.S.Store c.args.tx.now.conn.now in
      let new = state g.S.Store c.run.new.tx.conn.now in
      writes_by HasLayout old new update_text newest c.run.result Renames (λ clean inside. rw (c.to_sql.ensures) at (c.run.ensures.ran clean inside)) c.run.ensures.survives (renames old new);
}

pub returns-clause-err : goal.returns-clause-err
unfolding written_out
returns-clause-err g c =
    let old = state g.S.Store c.args.tx.now.conn.now in
    let new = state g.S.Store c.run.new.tx.conn.now in
    statement_tells HasLayout update_text newest old new c.run.result c.run.ensures.ended (λ clean inside. rw (c.to_sql.ensures) at (c.run.ensures.ran clean inside)) (update_codes update_text (settled name.Office) update_is newest refl old new)

pub returns-clause-blamed : goal.returns-clause-blamed
unfolding written_out
returns-clause-blamed g c =
    let old = state g.S.Store c.args.tx.now.conn.now in
    let new = state g.S.Store c.run.new.tx.conn.now in
    statement_blames HasLayout update_text newest old new c.run.result (λ clean inside. rw (c.to_sql.ensures) at (c.run.ensures.ran clean inside)) (update_codes update_text (settled name.Office) update_is newest refl old new)
