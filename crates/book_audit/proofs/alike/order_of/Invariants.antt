use Rattle.std.proofs.Common.{◌≡◌, drop}
use Rattle.sqlite_value.specs.Order.{row_cmp}
use Rattle.book_audit.proofs.alike.order_of.Given as goal

-- the columns so far tie
abbrev pub invariant-loop-at : goal.invariant-loop-at
invariant-loop-at g l =
    row_cmp (drop l.at (g.R.Columns.values l.one)) (drop l.at (g.R.Columns.values l.other)) ≡ row_cmp (g.R.Columns.values l.one) (g.R.Columns.values l.other)
