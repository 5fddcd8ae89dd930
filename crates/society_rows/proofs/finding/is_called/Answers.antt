use Rattle.std.proofs.Common.{◌∙◌, sym, ap}
use Rattle.sqlite_schema.specs.declared.schema.Table.{Table}
use Rattle.society_rows.specs.Layout.{table_called}
use Rattle.society_rows.specs.Shapes.{in_order, references_of}
use Rattle.society_rows.proofs.finding.is_called.Goals as goal

pub returns : goal.returns
returns c =
    let tree = c.args.tree in
    let turned = c.is_turned.result in
    let is = c.shape_of.ensures.table tree (references_of c.shape_of.result turned)
    ∙ (λ i. let t : Table = record (table_called c.args.name) { tree = tree; references = in_order turned (c.shape_of.ensures.parents i) } in t)
    ∙ ap (λ (x : Table). let t : Table = record x { tree = tree } in t) c.is_turned.ensures in
    (λ t. c.is_table.ensures.0 t ∙ is, λ e. c.is_table.ensures.1 (e ∙ sym is))
