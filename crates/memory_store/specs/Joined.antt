-- The rows of pieces that follow one another (representation).
use Rattle.std.specs.Prelude.{List, [], ◌∷◌, ◌++◌, Vec}
use Rattle.std.specs.declared.alloc.Global.{Global}
use Rattle.sqlite_value.specs.Order.{Row}

-- the rows of all pieces
abbrev pub joined : List (Vec Row Global) → List Row
joined [] = []
joined (piece ∷ pieces) = piece.items ++ joined pieces
