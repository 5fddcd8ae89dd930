use Rattle.std.proofs.Common.{◌∙◌, ap, arith}
use Rattle.sqlite_trees.specs.Tree.{with_tree}
use Rattle.memory_store.specs.Log.{rows_at}
use Rattle.memory_store.proofs.lemmas.RowsAt.{rows_at-set, rows_at-empty}
use Rattle.memory_store.proofs.logged.clear.Goals as goal

pub returns-then-tree-len : goal.returns-then-tree-len
returns-then-tree-len c =
    let trees = c.args.trees.now.items in
    record { none = rows_at-set trees c.args.tree c.new.result (omega arith) ∙ ap (with_tree (rows_at trees) c.args.tree) c.new.ensures.none }

pub returns-else-tree-len : goal.returns-else-tree-len
returns-else-tree-len c = record { none = rows_at-empty c.args.trees.now.items c.args.tree (omega arith) }
