use Rattle.std.proofs.Common.{arith, rules}
use Rattle.sqlite.specs.Held.{state}
use Rattle.society_rows.proofs.lemmas.changes.ListWrites.{adds_empty}
use Rattle.society_rows.proofs.pairing.add_part.Goals as goal

pub returns-in-empty-clause-written : goal.returns-in-empty-clause-written
returns-in-empty-clause-written g c = record {
  same_reference = search rules;
  says = adds_empty g.R.PairedRow.table g.R.PairedRow.values c.args.part.now (state g.S.Store c.args.tx.now.conn.now) (omega (arith, c.in-empty.len_below));
}
