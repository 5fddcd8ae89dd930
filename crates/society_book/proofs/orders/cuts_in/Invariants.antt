use Rattle.std.proofs.Common.{◌≡◌, map, take}
use Rattle.society_core.specs.Keys.{transmission_key}
use Rattle.society_book.specs.BookRows.{cut_key_of}
use Rattle.society_book.proofs.orders.cuts_in.Given as goal

abbrev pub invariant-loop-row : goal.invariant-loop-row
invariant-loop-row l = map (λ key. transmission_key key.0 key.1) l.list.items ≡ map cut_key_of (take l.row-index l.rows)
