use Rattle.std.proofs.Common.{arith, refl}
use Rattle.memory_store.proofs.lemmas.PlaceLemmas as lemma
use Rattle.memory_store.proofs.pieces.replace.Goals as goal

pub index_mut-rows-requires : goal.index_mut-rows-requires
index_mut-rows-requires c = let within = lemma.in_length c.args.pieces.now.items c.args.place.piece c.args.place.at c.requires.inside in omega arith

pub index_mut-requires : goal.index_mut-requires
index_mut-requires c =
    let within = lemma.in_row c.args.pieces.now.items c.args.place.piece c.args.place.at c.index_mut-rows.result.now c.requires.inside c.index_mut-rows.ensures.value in
    omega arith

pub returns-clause-rows : goal.returns-clause-rows
returns-clause-rows c =
    let within = lemma.in_row c.args.pieces.now.items c.args.place.piece c.args.place.at c.index_mut-rows.result.now c.requires.inside c.index_mut-rows.ensures.value in
    let here = lemma.at_in c.args.pieces.now.items c.args.place.piece c.args.place.at c.index_mut-rows.result.now c.requires.inside c.index_mut-rows.ensures.value in
    lemma.replaced c.args.pieces.now.items c.args.place.piece c.args.place.at c.index_mut-rows.result.now _ c.args.row here within refl
