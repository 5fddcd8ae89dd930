use Rattle.std.proofs.Common.{arith, ◌<◌, ◌-◌, ◌∷◌, ◌++◌, [], length, ap, ◌∙◌}
use Rattle.memory_store.specs.Joined.{joined}
use Rattle.memory_store.proofs.lemmas.PlaceLemmas as lemma
use Rattle.memory_store.proofs.pieces.push.Goals as goal

pub returns-in_err-push-clause-err : goal.returns-in_err-push-clause-err
returns-in_err-push-clause-err c =
    let here : c.len-count.result - 1 < length c.args.pieces.now.items = omega arith in
    lemma.on_err _ (lemma.joined-same c.args.pieces.now.items (c.len-count.result - 1) c.index_mut.result.now c.push.new.self (here, c.index_mut.ensures.value) c.in_err-push.ensures.items)

pub returns-then-len-lt-PIECE_ROWS-clause-ok : goal.returns-then-len-lt-PIECE_ROWS-clause-ok
returns-then-len-lt-PIECE_ROWS-clause-ok c =
    let here : c.len-count.result - 1 < length c.args.pieces.now.items = omega arith in
    lemma.pushed c.args.pieces.now.items (c.len-count.result - 1) c.index_mut.result.now c.push.new.self c.args.row (here, c.index_mut.ensures.value) (omega arith) c.in_ok-push.ensures.items

pub returns-clause-ok : goal.returns-clause-ok
returns-clause-ok c =
    let made = c.in_ok-push-2.ensures.items ∙ ap (λ l. l ++ c.args.row ∷ []) c.new-piece.ensures.items in
    ap joined c.in_ok-push-3.ensures.items ∙ (lemma.joined-snoc c.args.pieces.now.items c.push-2.new.self ∙ ap (λ l. joined c.args.pieces.now.items ++ l) made)
