use Rattle.std.proofs.Common.{◌∙◌}
use Rattle.cwr_records.specs.Lines.{is_blank}
use Rattle.cwr_records.proofs.lemmas.Fields.{is_blank-filled}
use Rattle.cwr_records.proofs.field.Field.is_blank.Goals as goal

pub returns : goal.returns
unfolding is_blank
returns c =
    let p = c.self.inside.present.now in
    rw (← c.self.view_is) (c.are_blank.ensures ∙ is_blank-filled p _)
