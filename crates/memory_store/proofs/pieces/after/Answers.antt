use Rattle.std.proofs.Common.{arith, ◌<◌, ◌+◌, length, suc, sym, ap, ◌∙◌, add-one}
use Rattle.memory_store.specs.Pieces.{from_place}
use Rattle.memory_store.proofs.lemmas.PlaceLemmas as lemma
use Rattle.memory_store.proofs.lemmas.SearchLemmas.{filled, filled-at}
use Rattle.memory_store.proofs.pieces.after.Goals as goal

pub returns-then-piece-pieces : goal.returns-then-piece-pieces
returns-then-piece-pieces c = lemma.from_end _ _ _ c.if-piece-pieces.true

pub returns-then-at-len : goal.returns-then-at-len
returns-then-at-len c =
    lemma.after_row c.args.pieces.now c.args.place.piece c.args.place.at c.index-pieces-piece.result c.index.result.now (omega arith, c.index-pieces-piece.is) (omega arith) c.index.ensures

pub returns-then-piece-pieces-2 : goal.returns-then-piece-pieces-2
returns-then-piece-pieces-2 c =
    lemma.after_piece c.args.pieces.now c.args.place.piece c.args.place.at c.index-pieces-piece.result (omega arith, c.index-pieces-piece.is) (omega arith)
    ∙ lemma.from_end c.args.pieces.now (suc c.args.place.piece) 0 (omega arith)

pub returns : goal.returns
returns c =
    let pieces = c.args.pieces.now in
    let piece = c.args.place.piece in
    let here : piece + 1 < length pieces = omega arith in
    let some = filled-at pieces (piece + 1) c.index-pieces-piece-2.result (here, c.index-pieces-piece-2.is) (filled _ c.requires) in
    let next = lemma.after_row pieces (piece + 1) 0 c.index-pieces-piece-2.result c.index-2.result.now (here, c.index-pieces-piece-2.is) some c.index-2.ensures in
    lemma.after_piece pieces piece c.args.place.at c.index-pieces-piece.result (omega arith, c.index-pieces-piece.is) (omega arith)
    ∙ (ap (λ n. from_place pieces n 0) (sym (add-one piece)) ∙ next)
