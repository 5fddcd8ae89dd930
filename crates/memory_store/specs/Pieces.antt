-- The rows of a tree as pieces that follow one another, places between rows, and what a write makes of the rows.
use Rattle.std.specs.Prelude.{◌≡◌, ℕ, zero, suc, List, [], ◌∷◌, ◌++◌, drop, take, reverse, Option, Some, None, Vec}
use Rattle.std.specs.declared.alloc.Global.{Global}
use Rattle.sqlite_value.specs.Order.{Row}
use Rattle.sqlite_trees.specs.declared.store.Direction.{Direction}
use Rattle.sqlite_trees.specs.declared.store.Direction.TheVariants.{Forward, Backward}
use Rattle.sqlite_trees.specs.Tree.{put_row, without_rowid, insert_entry, remove_entry}
use Rattle.memory_store.specs.Joined.{joined}
use Rattle.memory_store.specs.declared.change.Change.{Change}
use Rattle.memory_store.specs.declared.change.Change.TheVariants.{Put, Delete, Insert, Remove, Clear}
use Rattle.memory_store.specs.declared.rows.SortedRows.{SortedRows}
use Rattle.memory_store.specs.declared.rows.RowPlace.{RowPlace}

-- the rows of a tree, in order
abbrev pub tree_rows : SortedRows → List Row
tree_rows rows = joined rows.pieces.items

-- the rows from a place on, which is a number of pieces and a number of rows of the next piece
abbrev pub from_place : List (Vec Row Global) → ℕ → ℕ → List Row
from_place [] piece at = []
from_place (first ∷ pieces) zero at = drop at first.items ++ joined pieces
from_place (first ∷ pieces) (suc piece) at = from_place pieces piece at

-- the rows before a place
abbrev pub rows_before : List (Vec Row Global) → ℕ → ℕ → List Row
rows_before [] piece at = []
rows_before (first ∷ pieces) zero at = take at first.items
rows_before (first ∷ pieces) (suc piece) at = first.items ++ rows_before pieces piece at

-- what a cursor at a place has left to give
abbrev pub left_from : Direction → RowPlace → SortedRows → List Row
left_from Forward place rows = from_place rows.pieces.items place.piece place.at
left_from Backward place rows = reverse (rows_before rows.pieces.items place.piece place.at)

-- a cursor at a place gave this row and is at the next place, or was at its end
abbrev pub CursorSteps : Direction → SortedRows → RowPlace → Row → Option RowPlace → Type 0
CursorSteps direction rows place row None = left_from direction place rows ≡ []
CursorSteps direction rows place row (Some moved) = left_from direction place rows ≡ row ∷ left_from direction moved rows

-- the rows after a write
abbrev pub changed : Change → List Row → List Row
changed (Put row) = put_row row
changed (Delete id) = without_rowid id
changed (Insert order entry) = insert_entry order entry
changed (Remove order entry) = remove_entry order entry
changed Clear = λ _. []
