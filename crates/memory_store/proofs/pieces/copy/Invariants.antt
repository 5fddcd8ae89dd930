use Rattle.std.proofs.Common.{◌≡◌, take}
use Rattle.memory_store.proofs.pieces.copy.Given as goal

abbrev pub invariant-loop-row : goal.invariant-loop-row
invariant-loop-row l = l.piece.items ≡ take l.row-index l.rows
