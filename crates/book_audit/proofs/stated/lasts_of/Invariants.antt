use Rattle.std.proofs.Common.{◌≡◌, map, take, true}
use Rattle.std.specs.List.{AllByRecursion}
use Rattle.book_audit.specs.Entries.{is_right_stated}
use Rattle.book_audit.specs.Judging.{last_stated}
use Rattle.book_audit.proofs.stated.lasts_of.Given as goal

-- the rows so far may stand in a book
abbrev pub invariant-loop-row : goal.invariant-loop-row
invariant-loop-row l = record {
  right : AllByRecursion (λ row. is_right_stated row ≡ true) (take l.row-index l.rows);
  these : l.lasts.items ≡ map last_stated (take l.row-index l.rows);
}
