use Rattle.std.proofs.Common.{rules}
use Rattle.sqlite.specs.Held.{state}
use Rattle.society_rows.specs.Layouts.{HasOlder, tables_of}
use Rattle.society_rows.specs.Raising.{BecomesNewest, Extends, Renames}
use Rattle.society_rows.specs.Stored.{HasLayout}
use Rattle.society_rows.proofs.lemmas.changes.Effects.{writes_then}
use Rattle.society_rows.proofs.lemmas.changes.Renaming.{becomes}
use Rattle.society_rows.proofs.lemmas.errors.Blamed.{blames_then}
use Rattle.society_rows.proofs.lemmas.errors.Told.{tells_then}
use Rattle.society_rows.proofs.raising.raise_inside.Goals as goal

pub returns-clause-raised : goal.returns-clause-raised
returns-clause-raised g c = record {
  same_reference = search rules;
  says =
      let from = c.args.from in
      writes_then (HasOlder from) HasLayout (state g.S.Store c.args.tx.now.conn.now) (state g.S.Store c.make_tables.new.tx.conn.now) (state g.S.Store c.rename.new.tx.conn.now) tt c.rename.result
      (Extends (tables_of from)) Renames (BecomesNewest from) (λ d e h. h.layout) (becomes from) (rw (c.table_count.ensures) at c.in_ok-make_tables.ensures.made.says) c.rename.ensures.renamed.says;
}

pub returns-clause-err : goal.returns-clause-err
returns-clause-err g c =
    tells_then (HasOlder c.args.from) HasLayout (state g.S.Store c.args.tx.now.conn.now) (state g.S.Store c.make_tables.new.tx.conn.now) (state g.S.Store c.rename.new.tx.conn.now)
    (rw (c.table_count.ensures) at c.in_ok-make_tables.ensures.made.says) (λ d e h. h.layout) c.rename.result c.rename.ensures.renamed.says.survives c.rename.ensures.err

pub returns-clause-blamed : goal.returns-clause-blamed
returns-clause-blamed g c =
    blames_then (HasOlder c.args.from) HasLayout (state g.S.Store c.args.tx.now.conn.now) (state g.S.Store c.make_tables.new.tx.conn.now) (state g.S.Store c.rename.new.tx.conn.now)
    (rw (c.table_count.ensures) at c.in_ok-make_tables.ensures.made.says) (λ d e h. h.layout) c.rename.result c.rename.ensures.renamed.says.survives c.rename.ensures.blamed
