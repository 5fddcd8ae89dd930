use Rattle.std.proofs.Common.{sym, ap, ◌∙◌, to_z-of_z}
use Rattle.sqlite_value.specs.declared.value.Value.TheVariants.{Int}
use Rattle.sqlite_value.proofs.OrderLemmas.{value_cmp_total}
use Rattle.sqlite_trees.specs.declared.store.Shape.TheVariants.{Table}
use Rattle.sqlite_trees.specs.Tree.{rowid, without_rowid}
use Rattle.sqlite_trees.proofs.TreeLemmas.{IsShaped-filter}
use Rattle.sqlite_trees.proofs.MemoryLemmas.{shaped}
use Rattle.memory_store.specs.Joined.{joined}
use Rattle.memory_store.proofs.lemmas.PlaceLemmas as places
use Rattle.memory_store.proofs.lemmas.WriteLemmas as lemma
use Rattle.memory_store.proofs.rows.SortedRows.delete.Goals as goal

pub find_near-place-requires-clause-cut : goal.find_near-place-requires-clause-cut
find_near-place-requires-clause-cut c =
    let was = rw c.in_ok-settle.ensures.ok at (shaped _ _ c.settle.new.self.ordered) in
    rw c.as_slice.ensures.value (lemma.cut_rising value_cmp_total rowid _ _ was.0)

pub invariant_of-self : goal.invariant_of-self
invariant_of-self c =
    let was = rw c.in_ok-settle.ensures.ok at (shaped _ _ c.settle.new.self.ordered) in
    let pieces = c.settle.new.self.pieces.items in
    let place = c.find_near-place.result in
    let fits = c.ranges.id in
    let before = simp (to_z-of_z, c.as_slice.ensures.value) at c.find_near-place.ensures.before in
    let after = simp (to_z-of_z, c.as_slice.ensures.value) at c.find_near-place.ensures.after in
    let head = simp (to_z-of_z, c.as_slice-2.ensures.value) at c.if-has_rowid.ensures.is in
    let rows = c.remove.ensures.rows ∙ (lemma.without-found value_cmp_total rowid (Int c.args.id) (joined pieces) _ _ (places.split_rows pieces place.piece place.at) was.0 before after (sym head)) in
    record { ordered = lemma.ordered_as _ Table _ _ c.in_ok-settle.ensures.ok rows (IsShaped-filter Table _ _ was); filled = c.remove.ensures.filled }

pub returns-then-has_rowid-clause-ok : goal.returns-then-has_rowid-clause-ok
returns-then-has_rowid-clause-ok c =
    let was = rw c.in_ok-settle.ensures.ok at (shaped _ _ c.settle.new.self.ordered) in
    let pieces = c.settle.new.self.pieces.items in
    let place = c.find_near-place.result in
    let fits = c.ranges.id in
    let before = simp (to_z-of_z, c.as_slice.ensures.value) at c.find_near-place.ensures.before in
    let after = simp (to_z-of_z, c.as_slice.ensures.value) at c.find_near-place.ensures.after in
    let head = simp (to_z-of_z, c.as_slice-2.ensures.value) at c.if-has_rowid.ensures.is in
    c.remove.ensures.rows ∙ ((lemma.without-found value_cmp_total rowid (Int c.args.id) (joined pieces) _ _ (places.split_rows pieces place.piece place.at) was.0 before after (sym head)) ∙ ap (λ l. without_rowid c.args.id (joined l)) c.in_ok-settle.ensures.rows)

pub returns-else-has_rowid-clause-ok : goal.returns-else-has_rowid-clause-ok
returns-else-has_rowid-clause-ok c =
    let was = rw c.in_ok-settle.ensures.ok at (shaped _ _ c.settle.new.self.ordered) in
    let pieces = c.settle.new.self.pieces.items in
    let place = c.find_near-place.result in
    let fits = c.ranges.id in
    let before = simp (to_z-of_z, c.as_slice.ensures.value) at c.find_near-place.ensures.before in
    let after = simp (to_z-of_z, c.as_slice.ensures.value) at c.find_near-place.ensures.after in
    let head = simp (to_z-of_z, c.as_slice-2.ensures.value) at c.if-has_rowid.ensures.is in
    (lemma.without-missing value_cmp_total rowid (Int c.args.id) (joined pieces) _ _ (places.split_rows pieces place.piece place.at) was.0 before after (sym head)) ∙ ap (λ l. without_rowid c.args.id (joined l)) c.in_ok-settle.ensures.rows
