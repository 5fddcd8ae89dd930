use Rattle.std.proofs.Common.{arith, ap, ◌∙◌}
use Rattle.memory_store.specs.Joined.{joined}
use Rattle.memory_store.proofs.lemmas.PlaceLemmas as lemma
use Rattle.memory_store.proofs.pieces.remove.Goals as goal

pub index-requires : goal.index-requires
index-requires c = let within = lemma.in_length c.args.pieces.now.items c.args.place.piece c.args.place.at c.requires.inside in omega arith

pub remove-requires : goal.remove-requires
remove-requires c = let within = lemma.in_length c.args.pieces.now.items c.args.place.piece c.args.place.at c.requires.inside in omega arith

pub index_mut-requires : goal.index_mut-requires
index_mut-requires c = let within = lemma.in_length c.args.pieces.now.items c.args.place.piece c.args.place.at c.requires.inside in omega arith

pub remove-requires-else-len-eq1 : goal.remove-requires-else-len-eq1
remove-requires-else-len-eq1 c =
    let within = lemma.in_row c.args.pieces.now.items c.args.place.piece c.args.place.at c.index_mut.result.now c.requires.inside c.index_mut.ensures.value in
    omega arith

pub returns-then-len-eq1-clause-rows : goal.returns-then-len-eq1-clause-rows
returns-then-len-eq1-clause-rows c =
    let within = lemma.in_row c.args.pieces.now.items c.args.place.piece c.args.place.at c.index.result.now c.requires.inside c.index.ensures in
    let here = lemma.at_in c.args.pieces.now.items c.args.place.piece c.args.place.at c.index.result.now c.requires.inside c.index.ensures in
    ap joined c.remove.ensures.items ∙ lemma.piece_taken_out c.args.pieces.now.items c.args.place.piece c.args.place.at c.index.result.now here within (omega arith)

pub returns-else-len-eq1-clause-rows : goal.returns-else-len-eq1-clause-rows
returns-else-len-eq1-clause-rows c =
    let within = lemma.in_row c.args.pieces.now.items c.args.place.piece c.args.place.at c.index_mut.result.now c.requires.inside c.index_mut.ensures.value in
    let here = lemma.at_in c.args.pieces.now.items c.args.place.piece c.args.place.at c.index_mut.result.now c.requires.inside c.index_mut.ensures.value in
    lemma.taken_out c.args.pieces.now.items c.args.place.piece c.args.place.at c.index_mut.result.now _ here within c.remove-else-len-eq1.ensures.items
