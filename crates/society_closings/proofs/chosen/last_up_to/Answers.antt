use Rattle.std.proofs.Common.{◌∙◌, List, ap, option_map}
use Rattle.std.proofs.lemmas.List.{take_all}
use Rattle.society_book.specs.Shown.{version_shown}
use Rattle.society_closings.proofs.lemmas.cuts.CutRows.{row_up_to}
use Rattle.sqlite_value.specs.Order.{Row}
use Rattle.society_closings.proofs.chosen.last_up_to.Goals as goal

pub returns-clause-version : goal.returns-clause-version
returns-clause-version c = c.loop-row.invariant ∙ ap (λ (rows : List Row). option_map version_shown (row_up_to c.args.cut rows)) (take_all c.loop-row.row-index c.args.rows.now c.loop-row-test.false)
