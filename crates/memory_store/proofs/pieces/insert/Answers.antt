use Rattle.std.proofs.Common.{arith, ◌<◌, ◌≤◌, length, ◌∙◌}
use Rattle.memory_store.proofs.lemmas.PlaceLemmas as lemma
use Rattle.memory_store.proofs.pieces.insert.Goals as goal

pub returns-then-place-len-clause-ok : goal.returns-then-place-len-clause-ok
returns-then-place-len-clause-ok c =
    let pieces = c.args.pieces.now.items in
    let past : length pieces ≤ c.args.place.piece = omega arith in
    rw (lemma.before_end pieces c.args.place.piece c.args.place.at past, lemma.from_end pieces c.args.place.piece c.args.place.at past) c.push.ensures.ok

pub insert-requires : goal.insert-requires
insert-requires c =
    let inside = c.requires.inside (omega arith) in
    let within = lemma.in_row c.args.pieces.now.items c.args.place.piece c.args.place.at c.index_mut.result.now inside c.index_mut.ensures.value in
    omega arith

pub returns-in_err-insert-clause-err : goal.returns-in_err-insert-clause-err
returns-in_err-insert-clause-err c =
    let here : c.args.place.piece < length c.args.pieces.now.items = omega arith in
    lemma.on_err _ (lemma.joined-same c.args.pieces.now.items c.args.place.piece c.index_mut.result.now c.insert.new.self (here, c.index_mut.ensures.value) c.in_err-insert.ensures.items)

pub returns-then-len-gt-PIECE_ROWS-clause-ok : goal.returns-then-len-gt-PIECE_ROWS-clause-ok
returns-then-len-gt-PIECE_ROWS-clause-ok c =
    let here : c.args.place.piece < length c.args.pieces.now.items = omega arith in
    c.split.ensures.rows
    ∙ lemma.put_in c.args.pieces.now.items c.args.place.piece c.args.place.at c.index_mut.result.now c.insert.new.self c.args.row (here, c.index_mut.ensures.value) c.in_ok-insert.ensures.items

pub returns-else-len-gt-PIECE_ROWS-clause-ok : goal.returns-else-len-gt-PIECE_ROWS-clause-ok
returns-else-len-gt-PIECE_ROWS-clause-ok c =
    let here : c.args.place.piece < length c.args.pieces.now.items = omega arith in
    lemma.put_in c.args.pieces.now.items c.args.place.piece c.args.place.at c.index_mut.result.now c.insert.new.self c.args.row (here, c.index_mut.ensures.value) c.in_ok-insert.ensures.items
