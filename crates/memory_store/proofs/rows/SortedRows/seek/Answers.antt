use Rattle.std.proofs.Common.{◌≡◌, reverse, sym, ap, ◌∙◌}
use Rattle.sqlite_trees.proofs.TreeLemmas.{sorted_shape}
use Rattle.sqlite_trees.proofs.MemoryLemmas.{shaped}
use Rattle.memory_store.specs.Joined.{joined}
use Rattle.memory_store.proofs.lemmas.PlaceLemmas as places
use Rattle.memory_store.proofs.lemmas.WriteLemmas as lemma
use Rattle.memory_store.proofs.rows.SortedRows.seek.Goals as goal

pub find_near-requires-clause-cut : goal.find_near-requires-clause-cut
find_near-requires-clause-cut c =
    let same : c.order.result ≡ c.args.order = lemma.same_order _ _ c.if-ne.ensures in
    let up = rw (sym c.order.ensures ∙ same) at (sorted_shape _ _ (shaped _ _ c.args.self.now.ordered)) in
    rw c.as_slice-pieces.ensures.value (lemma.cut_below c.args.order c.args.key.now _ up)

pub find_near-requires-in-Backward-clause-cut : goal.find_near-requires-in-Backward-clause-cut
find_near-requires-in-Backward-clause-cut c =
    let same : c.order.result ≡ c.args.order = lemma.same_order _ _ c.if-ne.ensures in
    let up = rw (sym c.order.ensures ∙ same) at (sorted_shape _ _ (shaped _ _ c.args.self.now.ordered)) in
    rw c.as_slice-pieces.ensures.value (lemma.cut_up_to c.args.order c.args.key.now _ up)

pub returns-in-Forward-clause-place : goal.returns-in-Forward-clause-place
returns-in-Forward-clause-place c =
    let pieces = c.args.self.now.pieces.items in
    let place = c.find_near.result in
    let before = rw c.as_slice-pieces.ensures.value at c.find_near.ensures.before in
    let after = rw c.as_slice-pieces.ensures.value at c.find_near.ensures.after in
    let found = lemma.from_key-split c.args.order c.args.key.now (joined pieces) _ _ (places.split_rows pieces place.piece place.at) before after in
    rw c.in-Forward.is found

pub returns-in-Backward-clause-place : goal.returns-in-Backward-clause-place
returns-in-Backward-clause-place c =
    let pieces = c.args.self.now.pieces.items in
    let place = c.find_near-in-Backward.result in
    let before = rw c.as_slice-pieces.ensures.value at c.find_near-in-Backward.ensures.before in
    let after = rw c.as_slice-pieces.ensures.value at c.find_near-in-Backward.ensures.after in
    let found = lemma.up_to_key-split c.args.order c.args.key.now (joined pieces) _ _ (places.split_rows pieces place.piece place.at) before after in
    rw c.in-Backward.is (ap reverse found)

pub returns-then-ne-clause-other : goal.returns-then-ne-clause-other
returns-then-ne-clause-other c = λ _ same. lemma.other_order _ _ c.if-ne.ensures (c.order.ensures ∙ same)
