use Rattle.std.proofs.Common.{arith}
use Rattle.cwr_records.proofs.lemmas.Fields.{number_of-blank}
use Rattle.cwr_records.proofs.field.Field.number.Goals as goal

pub returns-then-self : goal.returns-then-self
returns-then-self c = rw (← c.self.view_is) (number_of-blank c.self.inside.present.now _ (omega arith))
