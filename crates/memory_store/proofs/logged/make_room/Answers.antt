use Rattle.std.proofs.Common.{◌∙◌}
use Rattle.memory_store.proofs.lemmas.RowsAt.{rows_at-pushed}
use Rattle.memory_store.proofs.logged.make_room.Goals as goal

pub loop-alloc-preserved : goal.loop-alloc-preserved
loop-alloc-preserved c = rw c.in_ok-push.ensures.items (rows_at-pushed c.loop-alloc.trees.items c.new.result c.new.ensures.none ∙ c.loop-alloc.invariant)
