use Rattle.std.proofs.Common.{◌≡◌, Ok}
use Rattle.sqlite.specs.Held.{state}
use Rattle.society_rows.specs.Effects.{WritesOver}
use Rattle.society_rows.specs.Layouts.{HasFirst}
use Rattle.society_rows.proofs.lemmas.definitions.Missing.{Grows}
use Rattle.society_rows.proofs.layout.make_tables.Given as goal

abbrev pub invariant-loop-at : goal.invariant-loop-at
invariant-loop-at g l = record {
  same_reference : l.tx.conn.ghost_name ≡ l.initial.tx.conn.ghost_name;
  made : WritesOver {X = Unit {0}} (HasFirst l.from) (state g.S.Store l.initial.tx.conn.now) (state g.S.Store l.tx.conn.now) (Ok tt) (Grows l.from l.at);
}
