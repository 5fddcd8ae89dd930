use Rattle.std.proofs.Common.{[], ◌∷◌, rules}
use Rattle.sqlite.specs.Held.{state}
use Rattle.society_rows.specs.Layout.{office}
use Rattle.society_rows.specs.NewBook.{IsBare, IsEmptyBook, Begins}
use Rattle.society_rows.specs.Rows.{office_values}
use Rattle.society_rows.specs.Stored.{HasLayout, Adds}
use Rattle.society_rows.proofs.lemmas.changes.Effects.{writes_then}
use Rattle.society_rows.proofs.lemmas.definitions.NewBooks.{begins}
use Rattle.society_rows.proofs.lemmas.errors.Blamed.{blames_then}
use Rattle.society_rows.proofs.lemmas.errors.Told.{tells_then}
use Rattle.society_rows.proofs.layout.begin_book.Goals as goal

pub returns-clause-begun : goal.returns-clause-begun
returns-clause-begun g c = record {
  same_reference = search rules;
  says =
      let row = office_values c.args.office.now in
      writes_then IsBare HasLayout (state g.S.Store c.args.tx.now.conn.now) (state g.S.Store c.lay_out.new.tx.conn.now) (state g.S.Store c.add.new.tx.conn.now) tt c.add.result (λ _. IsEmptyBook)
      (Adds office (row ∷ [])) (λ _. Begins row) (λ d e h. h.layout) (λ d e f none more. begins row e f none more) c.in_ok-lay_out.ensures.made.says c.add.ensures.written.says;
}

pub returns-clause-err : goal.returns-clause-err
returns-clause-err g c =
    tells_then IsBare HasLayout (state g.S.Store c.args.tx.now.conn.now) (state g.S.Store c.lay_out.new.tx.conn.now) (state g.S.Store c.add.new.tx.conn.now) c.in_ok-lay_out.ensures.made.says (λ d e h. h.layout)
    c.add.result c.add.ensures.written.says.survives c.add.ensures.err

pub returns-clause-blamed : goal.returns-clause-blamed
returns-clause-blamed g c =
    blames_then IsBare HasLayout (state g.S.Store c.args.tx.now.conn.now) (state g.S.Store c.lay_out.new.tx.conn.now) (state g.S.Store c.add.new.tx.conn.now) c.in_ok-lay_out.ensures.made.says (λ d e h. h.layout)
    c.add.result c.add.ensures.written.says.survives c.add.ensures.blamed
