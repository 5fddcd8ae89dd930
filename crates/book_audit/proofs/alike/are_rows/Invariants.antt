use Rattle.std.proofs.Common.{◌≡◌, ◌<◌, [], ℕ, get_or, map}
use Rattle.book_audit.proofs.alike.are_rows.Given as goal

-- the rows so far are those
abbrev pub invariant-loop-at : goal.invariant-loop-at
invariant-loop-at g l = (k : ℕ) → k < l.at → get_or l.rows k [] ≡ get_or (map g.R.Columns.values l.wanted) k []
