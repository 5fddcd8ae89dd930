use Rattle.std.proofs.Common.{true, refl, to_z-of_z}
use Rattle.std.proofs.lemmas.Result.{on_ok_weaker}
use Rattle.sqlite_trees.proofs.Doubt.{no_doubt}
use Rattle.memory_store.proofs.memory.MemoryStoreStore.delete.Goals as goal

pub write-requires : goal.write-requires
write-requires c = c.requires (no_doubt true refl)

pub returns-clause-ok : goal.returns-clause-ok
returns-clause-ok c = let fits = c.ranges.id in on_ok_weaker c.write.result (λ made _. made) (simp to_z-of_z at c.write.ensures.ok)
