use Rattle.std.proofs.Common.{arith, ◌∷◌, [], take, sym, ap, ◌∙◌, refl, to_z-of_z}
use Rattle.sqlite_value.specs.declared.value.Value.TheVariants.{Int}
use Rattle.sqlite_value.proofs.OrderLemmas.{value_cmp_total}
use Rattle.sqlite_trees.specs.Tree.{rowid}
use Rattle.sqlite_trees.proofs.MemoryLemmas.{shaped}
use Rattle.memory_store.specs.Joined.{joined}
use Rattle.memory_store.proofs.lemmas.PlaceLemmas as places
use Rattle.memory_store.proofs.lemmas.WriteLemmas as lemma
use Rattle.memory_store.proofs.rows.SortedRows.get.Goals as goal

pub find_near-place-requires-clause-cut : goal.find_near-place-requires-clause-cut
find_near-place-requires-clause-cut c =
    let was = rw c.in-Table.is at (shaped _ _ c.args.self.now.ordered) in
    rw c.as_slice-pieces.ensures.value (lemma.cut_rising value_cmp_total rowid _ _ was.0)

pub bounds-pieces-place : goal.bounds-pieces-place
bounds-pieces-place c = places.in_length _ _ _ (c.if-has_rowid.ensures.inside refl)

pub index-requires : goal.index-requires
index-requires c =
    let within = places.in_row c.as_slice-pieces.result.now c.find_near-place.result.piece c.find_near-place.result.at c.index-pieces-place.result (c.if-has_rowid.ensures.inside refl) c.index-pieces-place.is in
    omega arith

pub returns-in_ok-copy_from : goal.returns-in_ok-copy_from
returns-in_ok-copy_from c =
    let was = rw c.in-Table.is at (shaped _ _ c.args.self.now.ordered) in
    let fits = c.ranges.id in
    let pieces = c.args.self.now.pieces.items in
    let place = c.find_near-place.result in
    let inside = rw c.as_slice-pieces.ensures.value at (c.if-has_rowid.ensures.inside refl) in
    let is = rw c.as_slice-pieces.ensures.value at c.index-pieces-place.is in
    let before = simp (to_z-of_z, c.as_slice-pieces.ensures.value) at c.find_near-place.ensures.before in
    let after = simp (to_z-of_z, c.as_slice-pieces.ensures.value) at c.find_near-place.ensures.after in
    let head = simp (to_z-of_z, c.as_slice-pieces.ensures.value) at c.if-has_rowid.ensures.is in
    let row = places.after_row pieces place.piece place.at c.index-pieces-place.result c.index.result.now (places.at_in pieces place.piece place.at _ inside is)
    (places.in_row pieces place.piece place.at _ inside is) c.index.ensures in
    let found = lemma.filter-found value_cmp_total rowid (Int c.args.id) (joined pieces) _ _ (places.split_rows pieces place.piece place.at) was.0 before after (sym head) in
    record { found = found ∙ (ap (take 1) row ∙ ap (λ r. r ∷ []) (sym c.in_ok-copy_from.ensures.ok)) }

pub returns-else-has_rowid : goal.returns-else-has_rowid
returns-else-has_rowid c =
    let was = rw c.in-Table.is at (shaped _ _ c.args.self.now.ordered) in
    let fits = c.ranges.id in
    let pieces = c.args.self.now.pieces.items in
    let place = c.find_near-place.result in
    let before = simp (to_z-of_z, c.as_slice-pieces.ensures.value) at c.find_near-place.ensures.before in
    let after = simp (to_z-of_z, c.as_slice-pieces.ensures.value) at c.find_near-place.ensures.after in
    let head = simp (to_z-of_z, c.as_slice-pieces.ensures.value) at c.if-has_rowid.ensures.is in
    record { found = lemma.filter-missing value_cmp_total rowid (Int c.args.id) (joined pieces) _ _ (places.split_rows pieces place.piece place.at) was.0 before after (sym head) }
