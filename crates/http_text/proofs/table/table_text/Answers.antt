use Rattle.std.proofs.Common.{ℕ, List, ◌∙◌, subst, arith}
use Rattle.std.proofs.lemmas.Option.{same_Some}
use Rattle.csv.specs.Writing.{default_writer, row_text}
use Rattle.http_text.specs.Rows.{HasWrittenRows}
use Rattle.http_text.specs.Table.{credit_columns, table_text}
use Rattle.http_text.proofs.lemmas.TableLemmas.{all_rows, rows_more}
use Rattle.http_text.proofs.table.table_text.Goals as goal

pub loop-credit-preserved : goal.loop-credit-preserved
loop-credit-preserved c =
    subst (λ (rows : List ℕ). HasWrittenRows c.put_credit.new.table rows)
    (rows_more (row_text default_writer credit_columns) c.args.credits.now c.loop-credit.credit-index c.credit-item.result (omega arith) c.credit-item.is)
    (c.in_ok-put_credit.ensures _ c.loop-credit.invariant)

pub returns-in-Ok : goal.returns-in-Ok
unfolding table_text
returns-in-Ok c =
    c.in-Ok.ensures.ok
    ∙ same_Some _ _ c.loop-credit.invariant.text
    ∙ all_rows (row_text default_writer credit_columns) c.args.credits.now c.loop-credit.credit-index (omega arith)
