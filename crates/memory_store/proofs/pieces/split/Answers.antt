use Rattle.std.proofs.Common.{ap, ◌∙◌}
use Rattle.memory_store.specs.Joined.{joined}
use Rattle.memory_store.proofs.lemmas.PlaceLemmas as lemma
use Rattle.memory_store.proofs.pieces.split.Goals as goal

pub returns-in-Ok-clause-rows : goal.returns-in-Ok-clause-rows
returns-in-Ok-clause-rows c =
    let more = rw c.if-is_err.ensures.negation at c.insert.ensures.items in
    let is = rw more at c.index_mut.ensures.value in
    rw more (lemma.parted c.args.pieces.now.items c.args.at _ c.index_mut.result.now c.new.result c.split_off.new.self c.in-Ok.upper c.requires.within is c.in-Ok.ensures.items c.in-Ok.ensures.tail)

pub returns-in-Err-clause-rows : goal.returns-in-Err-clause-rows
returns-in-Err-clause-rows c =
    let more = rw c.if-is_err.ensures.negation at c.insert.ensures.items in
    let is = rw more at c.index_mut.ensures.value in
    let rest = rw (c.in-Err.ensures.err, more) at c.remove.ensures.items in
    ap joined rest ∙ lemma.unparted c.args.pieces.now.items c.args.at c.index_mut.result.now c.new.result c.requires.within is
