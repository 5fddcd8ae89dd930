use Rattle.std.proofs.Common.{rules}
use Rattle.sqlite.specs.Held.{state}
use Rattle.society_rows.specs.Layouts.{HasFirst}
use Rattle.society_rows.specs.NewBook.{IsBare, IsEmptyBook}
use Rattle.society_rows.specs.Raising.{Extends}
use Rattle.society_rows.proofs.lemmas.changes.Effects.{writes_as}
use Rattle.society_rows.proofs.lemmas.definitions.NewBooks.{bare_first}
use Rattle.society_rows.proofs.layout.lay_out.Goals as goal

pub returns-clause-made : goal.returns-clause-made
returns-clause-made g c = record {
  same_reference = search rules;
  says =
      let old = state g.S.Store c.args.tx.now.conn.now in
      writes_as (HasFirst 0) IsBare old (state g.S.Store c.make_tables.new.tx.conn.now) c.make_tables.result (Extends 0) (λ _. IsEmptyBook) (bare_first old.now) (λ d e made. record { layout = made.layout; empty = made.empty }) c.make_tables.ensures.made.says;
}

pub returns-clause-err : goal.returns-clause-err
returns-clause-err g c = λ inside clean bare. c.make_tables.ensures.err inside clean (bare_first (state g.S.Store c.args.tx.now.conn.now).now bare)

pub returns-clause-blamed : goal.returns-clause-blamed
returns-clause-blamed g c = λ clean inside bare. c.make_tables.ensures.blamed clean inside (bare_first (state g.S.Store c.args.tx.now.conn.now).now bare)
