use Rattle.std.proofs.Common.{◌∙◌}
use Rattle.std.proofs.lemmas.List.{take_all}
use Rattle.order_credits.proofs.lemmas.SoughtLemmas.{tallied_of}
use Rattle.order_credits.proofs.sought.tally_with.Goals as goal

pub returns-clause-tallied : goal.returns-clause-tallied
returns-clause-tallied c isrc =
    let it = c.loop-isrc.invariant in
    tallied_of c.loop-isrc.tally it.0 c.args.isrcs.now it.1 (it.2 ∙ take_all c.loop-isrc.isrc-index c.args.isrcs.now c.loop-isrc-test.false) isrc
