use Rattle.std.proofs.Common.{true, refl, subst}
use Rattle.std.proofs.lemmas.Result.{on_ok_weaker}
use Rattle.sqlite_value.specs.Order.{Row}
use Rattle.sqlite_trees.proofs.Doubt.{no_doubt}
use Rattle.sqlite_trees.specs.View.{SetsTree}
use Rattle.sqlite_trees.specs.Tree.{put_row}
use Rattle.memory_store.specs.Memory.{store_view}
use Rattle.memory_store.proofs.memory.MemoryStoreStore.put.Goals as goal

pub write-requires : goal.write-requires
write-requires c = (c.requires.table (no_doubt true refl), rw c.in_ok-copy.ensures (c.requires.keyed (no_doubt true refl)))

pub returns-clause-ok : goal.returns-clause-ok
returns-clause-ok c =
    on_ok_weaker c.write.result (λ made _. subst (λ (row : Row). SetsTree (store_view c.args.self.now) (store_view c.write.new.self) c.args.table (put_row row)) c.in_ok-copy.ensures made) c.write.ensures.ok
