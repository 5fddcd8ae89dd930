use Rattle.std.proofs.Common.{◌≡◌}
use Rattle.std.specs.Slice.Iter.{chunks_rest, chunks_size}
use Rattle.sqlite.specs.Held.{state}
use Rattle.society_rows.proofs.lemmas.changes.ListWrites.{AddsSome}
use Rattle.society_rows.proofs.pairing.add_all.Given as goal

abbrev pub invariant-loop-part : goal.invariant-loop-part
invariant-loop-part g l = record {
  ready : (goal.iterator-loop-part g).can_next l.part-iterator;
  finite : (goal.iterator-loop-part g).is_finite l.part-iterator;
  size : chunks_size l.part-iterator ≡ 2;
  same_reference : l.tx.conn.ghost_name ≡ l.initial.tx.conn.ghost_name;
  some : AddsSome g.R.PairedRow.table g.R.PairedRow.values l.rows (chunks_rest l.part-iterator) (state g.S.Store l.initial.tx.conn.now) (state g.S.Store l.tx.conn.now);
}
