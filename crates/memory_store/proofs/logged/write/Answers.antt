use Rattle.std.proofs.Common.{◌≡◌, ◌∙◌, ap, sym}
use Rattle.std.proofs.lemmas.Result.{on_ok_weaker, on_err_weaker}
use Rattle.sqlite_trees.specs.Tree.{Trees, with_tree}
use Rattle.memory_store.specs.Pieces.{changed, tree_rows}
use Rattle.memory_store.specs.Log.{rows_at}
use Rattle.memory_store.proofs.lemmas.RowsAt.{rows_at-set, rows_at-read, rows_at-same}
use Rattle.memory_store.proofs.logged.write.Goals as goal

pub returns-clause-ok : goal.returns-clause-ok
returns-clause-ok c =
    let mid = c.make_room.new.trees.items in
    let room = c.in_ok-make_room.ensures in
    let was : rows_at mid c.args.tree ≡ tree_rows c.index_mut.result.now = rows_at-read mid c.args.tree _ room.room c.index_mut.ensures.value in
    on_ok_weaker c.apply.result (λ made. rows_at-set mid c.args.tree c.apply.new.self room.room
    ∙ ap (with_tree (rows_at mid) c.args.tree) (made ∙ ap (changed c.args.change) (sym was))
    ∙ ap (λ (db : Trees). with_tree db c.args.tree (changed c.args.change (db c.args.tree))) room.same) c.apply.ensures.ok

pub returns-clause-err : goal.returns-clause-err
returns-clause-err c =
    let mid = c.make_room.new.trees.items in
    let room = c.in_ok-make_room.ensures in
    let was : rows_at mid c.args.tree ≡ tree_rows c.index_mut.result.now = rows_at-read mid c.args.tree _ room.room c.index_mut.ensures.value in
    on_err_weaker c.apply.result (λ kept. rows_at-same mid c.args.tree c.apply.new.self room.room (kept ∙ sym was) ∙ room.same) c.apply.ensures.err
