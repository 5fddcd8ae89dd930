use Rattle.std.proofs.Common.{true, refl}
use Rattle.std.proofs.lemmas.Result.{on_ok_weaker}
use Rattle.sqlite_trees.proofs.Doubt.{no_doubt}
use Rattle.memory_store.proofs.memory.MemoryStoreStore.insert.Goals as goal

pub write-requires : goal.write-requires
write-requires c = rw (c.order.ensures, c.shape.ensures) (c.requires (no_doubt true refl))

pub returns-clause-ok : goal.returns-clause-ok
returns-clause-ok c = on_ok_weaker c.write.result (λ made _. made) (rw (c.order.ensures, c.shape.ensures, c.in_ok-copy.ensures) at c.write.ensures.ok)
