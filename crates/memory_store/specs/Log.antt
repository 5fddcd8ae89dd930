-- The rows of trees by their numbers, and what the writes of a log make of them.
use Rattle.std.specs.Prelude.{ℕ, List, [], map, fold, take, slice_index_or, slice_get, Option, Some, None, Vec}
use Rattle.std.specs.declared.alloc.Global.{Global}
use Rattle.sqlite_value.specs.Order.{Row}
use Rattle.sqlite_trees.specs.Tree.{Trees, with_tree}
use Rattle.memory_store.specs.declared.rows.SortedRows.{SortedRows}
use Rattle.memory_store.specs.Pieces.{tree_rows, left_from, changed}
use Rattle.memory_store.specs.declared.logged.Logged.{Logged}
use Rattle.memory_store.specs.declared.cursor.Cursor.{Cursor}

-- the rows of the tree with each number, none past the last
abbrev pub rows_at : List SortedRows → Trees
rows_at trees tree = slice_index_or (map tree_rows trees) tree []

-- the trees after the writes of a log
abbrev pub replayed : List Logged → Trees → Trees
replayed log db = fold (λ trees it. with_tree trees it.tree (changed it.change (trees it.tree))) db log

-- the trees after the first writes of a log
abbrev pub rows_after : List SortedRows → List Logged → ℕ → Trees
rows_after kept log count = replayed (take count log) (rows_at kept)

-- the trees that a transaction sees, which are those of the last commit where it wrote nothing
abbrev pub changed_or : Option (Vec SortedRows Global) → List SortedRows → List SortedRows
changed_or None kept = kept
changed_or (Some trees) kept = trees.items

abbrev left_in : Option SortedRows → Cursor → List Row
left_in None cursor = []
left_in (Some rows) cursor = elim cursor.place as (λ _. List Row) [ None ↦ [] | Some place ↦ left_from cursor.direction place rows ]

-- what a cursor has left to give
abbrev pub left_of : List SortedRows → Cursor → List Row
left_of trees cursor = left_in (slice_get trees cursor.tree) cursor
