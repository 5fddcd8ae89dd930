use Rattle.std.proofs.Common.{◌∙◌, sym}
use Rattle.cwr_records.proofs.lemmas.Fields.{trailing-filled}
use Rattle.cwr_records.proofs.field.Field.trimmed_end.Goals as goal

pub returns-clause-value : goal.returns-clause-value
returns-clause-value c = rw (← c.self.view_is) (c.without_trailing_blanks.ensures ∙ sym (trailing-filled c.self.inside.present.now _))
