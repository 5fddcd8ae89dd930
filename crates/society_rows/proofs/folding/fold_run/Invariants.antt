use Rattle.std.proofs.Common.{◌≡◌}
use Rattle.society_rows.proofs.lemmas.readings.RunFolds.{HasRunTo}
use Rattle.society_rows.proofs.folding.fold_run.Given as goal

abbrev pub invariant-loop-number : goal.invariant-loop-number
invariant-loop-number g l = record {
  same_reference : l.tx.conn.ghost_name ≡ l.initial.tx.conn.ghost_name;
  taken : HasRunTo g.S.Store g.F.RowFold.step l.sender l.initial.tx.conn.now l.tx.conn.now l.first l.number l.initial.into l.into;
}
