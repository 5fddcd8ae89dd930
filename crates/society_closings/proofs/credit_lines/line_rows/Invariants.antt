use Rattle.std.proofs.Common.{◌≡◌, map, take}
use Rattle.society_rows.specs.Rows.{credit_values}
use Rattle.society_closings.specs.Closings.{lines_from}
use Rattle.work_ids.specs.Account.{account_text}
use Rattle.society_closings.proofs.credit_lines.line_rows.Given as goal

abbrev pub invariant-loop-index : goal.invariant-loop-index
invariant-loop-index l = map (λ t. t.items) l.texts ≡ map (λ x. account_text x.account) l.credits → map credit_values l.rows.items ≡ lines_from l.pool l.first (take l.index l.credits)
