use Rattle.std.proofs.Common.{◌∙◌, refl}
use Rattle.std.proofs.lemmas.List.{take_rest}
use Rattle.cwr_records.proofs.lemmas.Fields.{field-clipped}
use Rattle.cwr_records.proofs.line.Line.field.Goals as goal

pub returns-clause-value : goal.returns-clause-value
returns-clause-value c =
    rw (← c.self.view_is) (c.new.ensures.value ∙ field-clipped c.self.inside.bytes.now _ c.args.first c.args.last c.requires.from_one c.requires.in_order (rw (c.min.ensures, take_rest, c.min-start.ensures) refl))
