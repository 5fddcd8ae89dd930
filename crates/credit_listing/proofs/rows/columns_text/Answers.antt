use Rattle.std.proofs.Common.{◌∙◌, [], refl}
use Rattle.std.proofs.lemmas.Option.{same_Some}
use Rattle.std.proofs.lemmas.Result.{IfOk-weaker}
use Rattle.http_text.specs.Rows.{HasWrittenRows}
use Rattle.credit_listing.proofs.rows.columns_text.Goals as goal

pub returns : goal.returns
returns c =
    let from = c.from_writer-table.ensures in
    let start : HasWrittenRows c.from_writer-table.result [] =
    record { text = rw (from.wtr, c.new-2.ensures.items, from.empty) refl; setup = from.cfg ∙ c.new.ensures; fields = from.fields; wrote = from.wrote } in
    let written = c.in_ok-put_row.ensures [] start in
    IfOk-weaker c.text_of.result _ _ (λ text kept. kept ∙ same_Some _ _ written.text) c.text_of.ensures
