use Rattle.std.proofs.Common.{arith, ◌≡◌, ◌<◌, ◌+◌, ◌-◌, length, sym, ap, ◌∙◌}
use Rattle.memory_store.specs.Pieces.{rows_before}
use Rattle.memory_store.proofs.lemmas.PlaceLemmas as lemma
use Rattle.memory_store.proofs.lemmas.SearchLemmas.{filled, filled-at}
use Rattle.memory_store.proofs.pieces.before.Goals as goal
use Rattle.memory_store.proofs.pieces.before.Goals.{then-piece-pieces+else-at-gt0, else-piece-pieces}

pub returns-then-at-gt0 : goal.returns-then-at-gt0
returns-then-at-gt0 c =
    let pieces = c.args.pieces.now in
    let v = c.index-pieces-piece.result in
    let at = c.min-at.result in
    let next : at ≡ (at - 1) + 1 = omega arith in
    let row = lemma.before_row pieces c.args.place.piece (at - 1) v c.index.result.now (omega arith, c.index-pieces-piece.is) (omega arith) c.index.ensures in
    let clip : rows_before pieces c.args.place.piece c.args.place.at ≡ rows_before pieces c.args.place.piece at =
    lemma.before_min pieces c.args.place.piece c.args.place.at v (omega arith, c.index-pieces-piece.is) at (omega arith) in
    clip ∙ (ap (rows_before pieces c.args.place.piece) next ∙ row)

pub returns : goal.returns
returns c =
    let pieces = c.args.pieces.now in
    let v = c.index-pieces-piece-2.result in
    let piece = c.min-piece.result in
    let here : piece - 1 < length pieces = omega arith in
    let some = filled-at pieces (piece - 1) v (here, c.index-pieces-piece-2.is) (filled _ c.requires) in
    let start : rows_before pieces c.args.place.piece c.args.place.at ≡ rows_before pieces piece 0 =
    elim c.if-piece-pieces.branch [
      | then-piece-pieces+else-at-gt0 w ↦
          let full = filled-at pieces c.args.place.piece w.index-pieces-piece.result (omega arith, w.index-pieces-piece.is) (filled _ c.requires) in
          let first : c.args.place.at ≡ 0 = omega arith in
          let same : c.args.place.piece ≡ piece = omega arith in
          ap (rows_before pieces c.args.place.piece) first ∙ ap (λ n. rows_before pieces n 0) same
      | else-piece-pieces w ↦ lemma.before_end pieces c.args.place.piece c.args.place.at (omega arith) ∙ sym (lemma.before_end pieces piece 0 (omega arith))
    ] in
    start ∙ lemma.before_last pieces piece c.len-at.result v c.index-2.result.now (omega arith) (here, c.index-pieces-piece-2.is) (omega arith) (omega arith) c.index-2.ensures
