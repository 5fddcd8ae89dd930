use Rattle.std.proofs.Common.{rules}
use Rattle.cwr_records.specs.Lines.{fill_field}
use Rattle.cwr_records.proofs.field.Field.new.Goals as goal

pub returns-clause-value : goal.returns-clause-value
unfolding fill_field
returns-clause-value c = search rules
