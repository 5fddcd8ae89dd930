use Rattle.std.proofs.Common.{true, refl}
use Rattle.sqlite_trees.proofs.Doubt.{no_doubt}
use Rattle.memory_store.proofs.memory.MemoryStore.has_failed.Goals as goal

pub returns : goal.returns
returns c = c.is_broken.ensures (no_doubt true refl)
