use Rattle.std.proofs.Common.{◌≡◌, ◌∙◌, ◌+◌, ◌-◌, rules}
use Rattle.cwr_records.proofs.lemmas.Layouts.{is_wide-tells}
use Rattle.cwr_records.proofs.layout.LineFields.at.Goals as goal

pub position_at-position-requires : goal.position_at-position-requires
position_at-position-requires g c = (is_wide-tells c.args.self.now.positions.now c.args.index g.row.WIDTH c.requires).within

pub at-requires-clause-from_one : goal.at-requires-clause-from_one
at-requires-clause-from_one g c =
    rw c.position_at-position.ensures (is_wide-tells c.args.self.now.positions.now c.args.index g.row.WIDTH c.requires).from_one

pub at-requires-clause-in_order : goal.at-requires-clause-in_order
at-requires-clause-in_order g c =
    rw c.position_at-position.ensures (is_wide-tells c.args.self.now.positions.now c.args.index g.row.WIDTH c.requires).in_order

pub to_fixed-requires : goal.to_fixed-requires
to_fixed-requires g c =
    let tells = is_wide-tells c.args.self.now.positions.now c.args.index g.row.WIDTH c.requires in
    let p = c.position_at-position.result in
    let wide : p.to + 1 - p.from ≡ g.row.WIDTH = rw c.position_at-position.ensures tells.wide in
    search (rules, c.at.ensures.width ∙ wide)
