use Rattle.std.proofs.Common.{◌≡◌, map, take}
use Rattle.memory_store.specs.Pieces.{tree_rows}
use Rattle.memory_store.proofs.logged.copy_trees.Given as goal

abbrev pub invariant-loop-tree : goal.invariant-loop-tree
invariant-loop-tree l = map tree_rows l.copy.items ≡ map tree_rows (take l.tree-index l.trees)
