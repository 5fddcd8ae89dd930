use Rattle.std.proofs.Common.{◌≡◌, ◌<◌, arith, length, get_or, Some, None}
use Rattle.std.proofs.lemmas.Grind.{common_steps}
use Rattle.sqlite_trees.proofs.StoreLemmas.{cursor_set, cursor_within}
use Rattle.memory_store.specs.Log.{left_of}
use Rattle.memory_store.specs.Memory.{current, store_view}
use Rattle.memory_store.proofs.memory.MemoryStoreStore.next.Goals as goal

pub returns-in-Some-clause-ok : goal.returns-in-Some-clause-ok
returns-in-Some-clause-ok c _ =
    let s = c.args.self.now in
    let steps = rw c.in-Some.is at c.in_ok-moved.ensures in
    let within : c.args.cursor < length s.cursors.items = cursor_within (left_of (current s)) _ _ c.requires in
    let held : get_or s.cursors.items c.args.cursor None ≡ Some c.unwrap.result = grind (arith, common_steps) in
    let moved = cursor_set (left_of (current s)) s.cursors.items c.args.cursor c.in-Some.moved within in
    (left_of (current s) c.in-Some.moved, rw (held, steps), rw c.from-at.ensures (λ i. record (store_view s) { cursors = λ k. moved k i }))
