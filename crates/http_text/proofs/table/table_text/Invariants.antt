use Rattle.std.proofs.Common.{◌++◌, take}
use Rattle.csv.specs.Writing.{default_writer, row_text}
use Rattle.http_text.specs.Rows.{HasWrittenRows}
use Rattle.http_text.specs.Table.{credit_columns, credit_table_rows}
use Rattle.http_text.proofs.table.table_text.Given as goal

abbrev pub invariant-loop-credit : goal.invariant-loop-credit
invariant-loop-credit l = HasWrittenRows l.table (row_text default_writer credit_columns ++ credit_table_rows (take l.credit-index l.credits))
