use Rattle.std.proofs.Common.{◌≤◌, ◌∙◌, arith, ap, length}
use Rattle.cwr_records.proofs.lemmas.Fields.{fill-filled, filled-length}
use Rattle.cwr_records.proofs.field.Field.widen.Goals as goal

pub returns : goal.returns
returns g c =
    let p = c.self.inside.present.now in
    let size = filled-length p c.self.inside.width c.self.invariant in
    let wider : c.self.inside.width ≤ g.row.WIDTH = omega (arith, c.requires, size, ap length c.self.view_is) in
    rw (← c.self.view_is) (c.new.ensures.value ∙ fill-filled c.self.inside.width g.row.WIDTH p c.self.invariant wider)
