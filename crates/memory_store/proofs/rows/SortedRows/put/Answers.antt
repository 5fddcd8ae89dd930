use Rattle.std.proofs.Common.{sym, ap, ◌∙◌, refl, IsTrue}
use Rattle.sqlite_value.proofs.OrderLemmas.{value_cmp_total}
use Rattle.sqlite_trees.specs.declared.store.Shape.TheVariants.{Table}
use Rattle.sqlite_trees.specs.Tree.{rowid, put_row}
use Rattle.sqlite_trees.specs.View.{is_int}
use Rattle.sqlite_trees.proofs.TreeLemmas.{IsShaped-put_row}
use Rattle.sqlite_trees.proofs.MemoryLemmas.{shaped}
use Rattle.memory_store.specs.Joined.{joined}
use Rattle.memory_store.proofs.lemmas.PlaceLemmas as places
use Rattle.memory_store.proofs.lemmas.WriteLemmas as lemma
use Rattle.memory_store.proofs.rows.SortedRows.put.Goals as goal

pub find_near-place-requires-clause-cut : goal.find_near-place-requires-clause-cut
find_near-place-requires-clause-cut c =
    let was = rw c.in_ok-settle.ensures.ok at (shaped _ _ c.settle.new.self.ordered) in
    rw c.as_slice.ensures.value (lemma.cut_rising value_cmp_total rowid _ _ was.0)

pub invariant_of-self : goal.invariant_of-self
invariant_of-self c =
    let was = rw c.in_ok-settle.ensures.ok at (shaped _ _ c.settle.new.self.ordered) in
    let pieces = c.settle.new.self.pieces.items in
    let place = c.find_near-place.result in
    let before = rw (c.as_slice.ensures.value, c.get-2.ensures) at c.find_near-place.ensures.before in
    let after = rw (c.as_slice.ensures.value, c.get-2.ensures) at c.find_near-place.ensures.after in
    let head = rw (c.as_slice-3.ensures.value, c.get-3.ensures) at c.if-has_rowid.ensures.is in
    let keyed : IsTrue (is_int (rowid c.args.row)) = rw (← c.in-Int.ensures) refl in
    let rows = c.replace.ensures.rows ∙ lemma.put_row-found c.args.row (joined pieces) _ _ (places.split_rows pieces place.piece place.at) before (sym head) in
    record { ordered = lemma.ordered_as _ Table _ _ c.in_ok-settle.ensures.ok rows (IsShaped-put_row c.args.row _ keyed was); filled = c.replace.ensures.filled }

pub invariant_of-self-else-has_rowid : goal.invariant_of-self-else-has_rowid
invariant_of-self-else-has_rowid c =
    let was = rw c.in_ok-settle.ensures.ok at (shaped _ _ c.settle.new.self.ordered) in
    let pieces = c.settle.new.self.pieces.items in
    let place = c.find_near-place.result in
    let before = rw (c.as_slice.ensures.value, c.get-2.ensures) at c.find_near-place.ensures.before in
    let after = rw (c.as_slice.ensures.value, c.get-2.ensures) at c.find_near-place.ensures.after in
    let head = rw (c.as_slice-3.ensures.value, c.get-3.ensures) at c.if-has_rowid.ensures.is in
    let keyed : IsTrue (is_int (rowid c.args.row)) = rw (← c.in-Int.ensures) refl in
    let made = lemma.put_row-missing c.args.row (joined pieces) _ _ (places.split_rows pieces place.piece place.at) before after (sym head) in
    record {
      ordered = lemma.ordered_either c.insert.result _ Table _ _ (joined pieces) c.in_ok-settle.ensures.ok (lemma.on_ok _ _ _ _ c.insert.ensures.ok made) c.insert.ensures.err (IsShaped-put_row c.args.row _ keyed was) was;
      filled = c.insert.ensures.filled;
    }

pub returns-then-has_rowid-clause-ok : goal.returns-then-has_rowid-clause-ok
returns-then-has_rowid-clause-ok c =
    let was = rw c.in_ok-settle.ensures.ok at (shaped _ _ c.settle.new.self.ordered) in
    let pieces = c.settle.new.self.pieces.items in
    let place = c.find_near-place.result in
    let before = rw (c.as_slice.ensures.value, c.get-2.ensures) at c.find_near-place.ensures.before in
    let after = rw (c.as_slice.ensures.value, c.get-2.ensures) at c.find_near-place.ensures.after in
    let head = rw (c.as_slice-3.ensures.value, c.get-3.ensures) at c.if-has_rowid.ensures.is in
    c.replace.ensures.rows ∙ (lemma.put_row-found c.args.row (joined pieces) _ _ (places.split_rows pieces place.piece place.at) before (sym head) ∙ ap (λ l. put_row c.args.row (joined l)) c.in_ok-settle.ensures.rows)

pub returns-else-has_rowid-clause-ok : goal.returns-else-has_rowid-clause-ok
returns-else-has_rowid-clause-ok c =
    let was = rw c.in_ok-settle.ensures.ok at (shaped _ _ c.settle.new.self.ordered) in
    let pieces = c.settle.new.self.pieces.items in
    let place = c.find_near-place.result in
    let before = rw (c.as_slice.ensures.value, c.get-2.ensures) at c.find_near-place.ensures.before in
    let after = rw (c.as_slice.ensures.value, c.get-2.ensures) at c.find_near-place.ensures.after in
    let head = rw (c.as_slice-3.ensures.value, c.get-3.ensures) at c.if-has_rowid.ensures.is in
    lemma.on_ok _ _ _ _ c.insert.ensures.ok (lemma.put_row-missing c.args.row (joined pieces) _ _ (places.split_rows pieces place.piece place.at) before after (sym head) ∙ ap (λ l. put_row c.args.row (joined l)) c.in_ok-settle.ensures.rows)
