use Rattle.cwr_records.specs.Lines.{fill_field}
use Rattle.cwr_records.proofs.fixed.Fixed.field.Goals as goal

pub returns-clause-value : goal.returns-clause-value
unfolding fill_field
returns-clause-value g c = rw (← c.self.view_is) c.new.ensures.value
