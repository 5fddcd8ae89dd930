use Rattle.std.proofs.Common.{◌≡◌, ◌<◌, ℕ}
use Rattle.sqlite_value.specs.Order.{column}
use Rattle.book_audit.proofs.alike.is_row.Given as goal

-- the columns so far are the same
abbrev pub invariant-loop-at : goal.invariant-loop-at
invariant-loop-at g l = (k : ℕ) → k < l.at → column l.row k ≡ column (g.R.Columns.values l.wanted) k
