use Rattle.std.proofs.Common.{arith, ◌≡◌, ◌<◌, length}
use Rattle.memory_store.specs.Search.{passes_probe, lasts}
use Rattle.memory_store.proofs.lemmas.PlaceLemmas.{is_in}
use Rattle.memory_store.proofs.lemmas.SearchLemmas as lemma
use Rattle.memory_store.proofs.search.Probe.find.Goals as goal

pub whole-piece-requires-clause-cut : goal.whole-piece-requires-clause-cut
whole-piece-requires-clause-cut c = lemma.cut-lasts (passes_probe c.args.self) _ c.requires.filled c.requires.cut

pub returns-then-piece-pieces-clause-before : goal.returns-then-piece-pieces-clause-before
returns-then-piece-pieces-clause-before c =
    (lemma.found (passes_probe c.args.self) _ _ 0 (lemma.filled _ c.requires.filled) c.requires.cut c.whole-piece.ensures (λ h. absurd (omega arith))).0

pub returns-then-piece-pieces-clause-after : goal.returns-then-piece-pieces-clause-after
returns-then-piece-pieces-clause-after c =
    (lemma.found (passes_probe c.args.self) _ _ 0 (lemma.filled _ c.requires.filled) c.requires.cut c.whole-piece.ensures (λ h. absurd (omega arith))).1

pub count-at-requires : goal.count-at-requires
count-at-requires c =
    let size : length (lasts c.args.pieces.now) ≡ length c.args.pieces.now = lemma.length-lasts c.args.pieces.now in
    let below : c.whole-piece.result < length c.args.pieces.now = omega (arith, c.whole-piece.ensures.within) in
    let cut = lemma.cut-piece (passes_probe c.args.self) c.args.pieces.now c.whole-piece.result c.index-pieces-piece.result (below, c.index-pieces-piece.is) c.requires.cut in
    rw c.as_slice.ensures.value cut

pub returns : goal.returns
returns c =
    let size : length (lasts c.args.pieces.now) ≡ length c.args.pieces.now = lemma.length-lasts c.args.pieces.now in
    let below : c.whole-piece.result < length c.args.pieces.now = omega (arith, c.whole-piece.ensures.within) in
    let place = rw c.as_slice.ensures.value at c.count-at.ensures in
    let both = lemma.found (passes_probe c.args.self) _ c.whole-piece.result _ (lemma.filled _ c.requires.filled) c.requires.cut c.whole-piece.ensures (λ h. (_, c.index-pieces-piece.is, place)) in
    record { before = both.0; after = both.1; within = omega arith; inside = λ h. is_in c.args.pieces.now c.whole-piece.result c.count-at.result c.index-pieces-piece.result (below, c.index-pieces-piece.is) (lemma.place_inside (passes_probe c.args.self) c.args.pieces.now c.whole-piece.result c.count-at.result c.index-pieces-piece.result (below, c.index-pieces-piece.is) (lemma.filled _ c.requires.filled) c.whole-piece.ensures place) }
