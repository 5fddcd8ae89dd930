use Rattle.std.proofs.Common.{sym, ap, ◌∙◌}
use Rattle.sqlite_value.proofs.KeyLemmas.{entry_cmp_total}
use Rattle.sqlite_trees.specs.declared.store.Shape.TheVariants.{Index}
use Rattle.sqlite_trees.specs.Tree.{insert_entry}
use Rattle.sqlite_trees.proofs.TreeLemmas.{IsIndex-insert_entry}
use Rattle.sqlite_trees.proofs.MemoryLemmas.{shaped}
use Rattle.memory_store.specs.Joined.{joined}
use Rattle.memory_store.proofs.lemmas.PlaceLemmas as places
use Rattle.memory_store.proofs.lemmas.WriteLemmas as lemma
use Rattle.memory_store.proofs.rows.SortedRows.insert.Goals as goal

pub find_near-place-requires-clause-cut : goal.find_near-place-requires-clause-cut
find_near-place-requires-clause-cut c =
    let was = rw c.in_ok-settle.ensures.ok at (shaped _ _ c.settle.new.self.ordered) in
    rw c.as_slice.ensures.value (lemma.cut_rising (entry_cmp_total c.args.order) (λ r. r) c.args.entry _ was)

pub returns-then-has_entry-clause-ok : goal.returns-then-has_entry-clause-ok
returns-then-has_entry-clause-ok c =
    let was = rw c.in_ok-settle.ensures.ok at (shaped _ _ c.settle.new.self.ordered) in
    let pieces = c.settle.new.self.pieces.items in
    let place = c.find_near-place.result in
    let before = rw c.as_slice.ensures.value at c.find_near-place.ensures.before in
    let after = rw c.as_slice.ensures.value at c.find_near-place.ensures.after in
    let head = rw c.as_slice-3.ensures.value at c.if-has_entry.ensures.is in
    lemma.insert_entry-found c.args.order c.args.entry (joined pieces) _ _ (places.split_rows pieces place.piece place.at) before (sym head)
    ∙ ap (λ l. insert_entry c.args.order c.args.entry (joined l)) c.in_ok-settle.ensures.rows

pub invariant_of-self : goal.invariant_of-self
invariant_of-self c =
    let was = rw c.in_ok-settle.ensures.ok at (shaped _ _ c.settle.new.self.ordered) in
    let pieces = c.settle.new.self.pieces.items in
    let place = c.find_near-place.result in
    let before = rw c.as_slice.ensures.value at c.find_near-place.ensures.before in
    let after = rw c.as_slice.ensures.value at c.find_near-place.ensures.after in
    let head = rw c.as_slice-3.ensures.value at c.if-has_entry.ensures.is in
    let made = lemma.insert_entry-missing c.args.order c.args.entry (joined pieces) _ _ (places.split_rows pieces place.piece place.at) before after (sym head) in
    record {
      ordered = lemma.ordered_either c.insert.result _ (Index c.args.order) _ _ (joined pieces) c.in_ok-settle.ensures.ok (lemma.on_ok _ _ _ _ c.insert.ensures.ok made) c.insert.ensures.err (IsIndex-insert_entry c.args.order c.args.entry _ was) was;
      filled = c.insert.ensures.filled;
    }

pub returns-clause-ok : goal.returns-clause-ok
returns-clause-ok c =
    let was = rw c.in_ok-settle.ensures.ok at (shaped _ _ c.settle.new.self.ordered) in
    let pieces = c.settle.new.self.pieces.items in
    let place = c.find_near-place.result in
    let before = rw c.as_slice.ensures.value at c.find_near-place.ensures.before in
    let after = rw c.as_slice.ensures.value at c.find_near-place.ensures.after in
    let head = rw c.as_slice-3.ensures.value at c.if-has_entry.ensures.is in
    let made = lemma.insert_entry-missing c.args.order c.args.entry (joined pieces) _ _ (places.split_rows pieces place.piece place.at) before after (sym head) in
    lemma.on_ok _ _ _ _ c.insert.ensures.ok (made ∙ ap (λ l. insert_entry c.args.order c.args.entry (joined l)) c.in_ok-settle.ensures.rows)
