use Rattle.book_audit.proofs.lemmas.entries.StatedRows.{next_last, nothing_there, something_there, twice}
use Rattle.book_audit.proofs.stated.map_of_lasts.Goals as goal

pub returns-then-is_some-clause-judged : goal.returns-then-is_some-clause-judged
returns-then-is_some-clause-judged c =
    let found = something_there _ _ _ c.in_ok-insert.ensures.old c.is_some.ensures c.if-is_some.true in
    twice c.args.lasts.now c.loop-key.key-index c.loop-key-item.result c.loop-key.ends found.0 c.loop-key-test.true c.loop-key-item.is c.loop-key.invariant found.1

pub loop-key-preserved : goal.loop-key-preserved
loop-key-preserved c =
    next_last c.args.lasts.now c.loop-key.key-index c.loop-key-item.result c.loop-key.ends c.insert.new.self c.loop-key-test.true c.loop-key-item.is c.loop-key.invariant
    (nothing_there _ _ _ c.in_ok-insert.ensures.old c.is_some.ensures c.if-is_some.false) c.in_ok-insert.ensures.updates.0
