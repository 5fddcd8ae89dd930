use Rattle.std.proofs.Common.{arith, sym, ap, ◌∙◌}
use Rattle.std.proofs.lemmas.Bool.{le-ltb}
use Rattle.memory_store.proofs.lemmas.PlaceLemmas as lemma
use Rattle.memory_store.proofs.pieces.has_rowid.Goals as goal
use Rattle.std.proofs.Common.{is_eq}
use Rattle.sqlite_value.specs.Value.{owned}
use Rattle.sqlite_value.specs.Order.{value_cmp}

pub index-requires : goal.index-requires
index-requires c =
    let within = lemma.in_row c.args.pieces.now c.args.place.piece c.args.place.at c.index-pieces-place.result (c.requires c.if-place-pieces.true) c.index-pieces-place.is in
    omega arith

pub returns-then-place-pieces-clause-is : goal.returns-then-place-pieces-clause-is
returns-then-place-pieces-clause-is c =
    let inside = c.requires c.if-place-pieces.true in
    let within = lemma.in_row c.args.pieces.now c.args.place.piece c.args.place.at c.index-pieces-place.result inside c.index-pieces-place.is in
    c.is_eq.ensures ∙ (ap is_eq (c.compare.ensures ∙ ap (λ v. value_cmp v (owned c.args.id)) c.get.ensures)
    ∙ sym (lemma.head_at _ c.args.pieces.now c.args.place.piece c.args.place.at c.index-pieces-place.result c.index.result.now (c.if-place-pieces.true, c.index-pieces-place.is) within c.index.ensures))

pub returns-else-place-pieces-clause-is : goal.returns-else-place-pieces-clause-is
returns-else-place-pieces-clause-is c = rw (lemma.from_end c.args.pieces.now c.args.place.piece c.args.place.at c.if-place-pieces.false) (le-ltb _ _ c.if-place-pieces.false)
