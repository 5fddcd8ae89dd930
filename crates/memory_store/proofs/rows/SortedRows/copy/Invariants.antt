use Rattle.std.proofs.Common.{◌≡◌, ◌<◌, All, length, take}
use Rattle.memory_store.specs.Joined.{joined}
use Rattle.memory_store.proofs.rows.SortedRows.copy.Given as goal

abbrev pub invariant-loop-piece : goal.invariant-loop-piece
invariant-loop-piece l = record {
  rows : joined l.pieces.items ≡ joined (take l.piece-index l.piece-items);
  filled : All (λ piece. 0 < length piece.items) l.pieces.items;
}
