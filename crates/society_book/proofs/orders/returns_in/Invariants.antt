use Rattle.std.proofs.Common.{◌≡◌, map, take}
use Rattle.society_core.specs.Keys.{return_key}
use Rattle.society_book.specs.BookRows.{return_key_of}
use Rattle.society_book.proofs.orders.returns_in.Given as goal

abbrev pub invariant-loop-row : goal.invariant-loop-row
invariant-loop-row l = map (λ key. return_key key.0 key.1) l.list.items ≡ map return_key_of (take l.row-index l.rows)
