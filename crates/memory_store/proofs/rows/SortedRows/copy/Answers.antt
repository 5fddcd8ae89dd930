use Rattle.std.proofs.Common.{◌≡◌, ◌<◌, ◌+◌, ◌++◌, ◌∷◌, [], length, take, sym, ap, ◌∙◌, subst, Vec}
use Rattle.std.specs.declared.alloc.Global.{Global}
use Rattle.sqlite_value.specs.Order.{Row}
use Rattle.sqlite_trees.specs.View.{IsShaped}
use Rattle.memory_store.specs.Joined.{joined}
use Rattle.memory_store.proofs.lemmas.PlaceLemmas as places
use Rattle.memory_store.proofs.lemmas.SearchLemmas.{filled, filled-at}
use Rattle.memory_store.proofs.rows.SortedRows.copy.Goals as goal
use Rattle.std.proofs.lemmas.List.{take_all, take_more}
use Rattle.std.proofs.lemmas.List.Elements.{All-push}

pub loop-piece-preserved : goal.loop-piece-preserved
loop-piece-preserved c =
    let from = c.deref-piece-items.result.now in
    let k = c.loop-piece.piece-index in
    let v = c.piece-item.result in
    let here : k < length from = c.loop-piece-test.true in
    let copied : c.in_ok-copy.field-0.items ≡ v.items = c.in_ok-copy.ensures ∙ c.as_slice.ensures.value in
    let more : take (k + 1) from ≡ take k from ++ v ∷ [] = take_more from k v here ∙ ap (λ y. take k from ++ y ∷ []) (sym c.piece-item.is) in
    let rows : joined c.push.new.self.items ≡ joined (take (k + 1) from) =
    ap joined c.in_ok-push.ensures.items ∙ (places.joined-snoc c.loop-piece.pieces.items c.in_ok-copy.field-0
    ∙ (ap (λ l. joined c.loop-piece.pieces.items ++ l) copied ∙ (ap (λ l. l ++ v.items) c.loop-piece.invariant.rows
    ∙ (sym (places.joined-snoc (take k from) v) ∙ ap joined (sym more))))) in
    let full = filled-at from k v (here, c.piece-item.is) (filled from (rw c.deref-piece-items.ensures.value c.args.self.now.filled)) in
    let some : 0 < length c.in_ok-copy.field-0.items = rw copied full in
    record { rows = rows; filled = rw c.in_ok-push.ensures.items (All-push (λ (x : Vec Row Global). 0 < length x.items) c.loop-piece.pieces.items c.in_ok-copy.field-0 c.loop-piece.invariant.filled some) }

pub invariant_of-result : goal.invariant_of-result
invariant_of-result c =
    let all = ap joined (take_all c.loop-piece.piece-index c.deref-piece-items.result.now c.loop-piece-test.false ∙ c.deref-piece-items.ensures.value) in
    let same = c.loop-piece.invariant.rows ∙ all in
    record { ordered = subst (λ rows. ∥ IsShaped c.args.self.now.shape rows ∥₁) (sym same) c.args.self.now.ordered; filled = c.loop-piece.invariant.filled }
