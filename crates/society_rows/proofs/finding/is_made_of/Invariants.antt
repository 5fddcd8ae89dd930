use Rattle.std.proofs.Common.{◌≡◌, length, take}
use Rattle.society_rows.proofs.lemmas.definitions.Laid.{all, before}
use Rattle.society_rows.proofs.finding.is_made_of.Given as goal

abbrev pub invariant-loop-at : goal.invariant-loop-at
invariant-loop-at l = record {
  tables : take l.at l.schema.tables ≡ take l.at (all l.cuts l.payments);
  indexes : take l.guards l.schema.indexes ≡ before l.cuts l.payments l.at;
  guards : l.guards ≡ length (before l.cuts l.payments l.at);
}
