use Rattle.std.proofs.Common.{◌∙◌, sym, ap, length}
use Rattle.cwr_records.specs.Lines.{fill_field}
use Rattle.cwr_records.proofs.lemmas.Fields.{filled-length}
use Rattle.cwr_records.proofs.field.Field.to_fixed.Goals as goal

pub returns : goal.returns
unfolding fill_field
returns g c =
    let width = sym c.requires ∙ ap length (sym c.self.view_is) ∙ filled-length c.self.inside.present.now c.self.inside.width c.self.invariant in
    rw (← c.self.view_is, ← width) c.new.ensures.value
