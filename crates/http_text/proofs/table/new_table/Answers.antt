use Rattle.std.proofs.Common.{◌∙◌, [], refl}
use Rattle.http_text.specs.Rows.{HasWrittenRows}
use Rattle.http_text.proofs.table.new_table.Goals as goal

pub returns : goal.returns
returns c =
    let from = c.from_writer-table.ensures in
    let start : HasWrittenRows c.from_writer-table.result [] =
    record { text = rw (from.wtr, c.new-2.ensures.items, from.empty) refl; setup = from.cfg ∙ c.new.ensures; fields = from.fields; wrote = from.wrote } in
    c.in_ok-put_row.ensures [] start
