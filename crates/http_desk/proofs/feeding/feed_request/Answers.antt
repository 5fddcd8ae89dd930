use Rattle.std.proofs.Common.{refl, arith, rules, ◌∙◌}
use Rattle.http_desk.specs.Input.{unread}
use Rattle.http_desk.proofs.lemmas.FeedingLemmas.{fed_awaits, fed_cut, fed_kept, fed_none, fed_on, fed_read}
use Rattle.http_desk.proofs.feeding.feed_request.Goals as goal

pub loop-left-init : goal.loop-left-init
loop-left-init g c =
    (fed_none (unread c.args.input.now) _ _ _ c.args.head.now _ c.args.sink.now _ c.requires.empty c.take.ensures.bytes c.take.ensures.turns c.args.reader.now.reads_fit, refl, refl, refl)

pub loop-left-preserved : goal.loop-left-preserved
loop-left-preserved g c =
    let so = fed_read (unread c.args.input.now) _ _ _ _ _ _ _ _ _ _ _ _ c.loop-left.sink _ c.requires.head (omega (arith, c.loop-left-test.true)) c.loop-left.invariant.0 c.fill.ensures.reads in (
      fed_on (unread c.args.input.now) _ _ _ _ _ (unread c.feed_read.new.input) _ _ _ _ _ c.feed_read.new.sink _ _ c.in-Ok.count so c.in-Ok.ensures.fed c.in-Ok.ensures.taken c.in-Ok.ensures.count (omega (arith, c.in-Ok.ensures.count)) c.feed_read.ensures.turns,
      c.in-Ok-true.ensures.kept ∙ c.loop-left.invariant.1,
      c.feed_read.ensures.sender ∙ c.loop-left.invariant.2,
      (let met = rw c.in-Ok-true.field-0-test at c.in-Ok-true.ensures.met in met ∙ c.loop-left.invariant.3),
    )

pub returns-in-Ok-false-clause-feeds : goal.returns-in-Ok-false-clause-feeds
returns-in-Ok-false-clause-feeds g c =
    let so = fed_read (unread c.args.input.now) _ _ _ _ _ _ _ _ _ _ _ _ c.loop-left.sink _ c.requires.head (omega (arith, c.loop-left-test.true)) c.loop-left.invariant.0 c.fill.ensures.reads in
    let e = c.in-Ok-false.ensures.end c.in-Ok-false.field-0-test in
    record {
      left = c.loop-left.left;
      so_far = so;
      ends = fed_cut (unread c.args.input.now) _ _ _ c.args.head.now _ _ _ _ c.loop-left.sink c.loop-left.left so c.requires.head (omega (arith, c.loop-left-test.true)) e.0 e.1;
    }

pub returns-in-Ok-false-clause-met : goal.returns-in-Ok-false-clause-met
returns-in-Ok-false-clause-met g c = search rules

pub returns-in-Err-clause-feeds : goal.returns-in-Err-clause-feeds
returns-in-Err-clause-feeds g c =
    let so = fed_read (unread c.args.input.now) _ _ _ _ _ _ _ _ _ _ _ _ c.loop-left.sink _ c.requires.head (omega (arith, c.loop-left-test.true)) c.loop-left.invariant.0 c.fill.ensures.reads in
    record {
      left = c.loop-left.left;
      so_far = so;
      ends = fed_awaits (unread c.args.input.now) _ _ _ c.args.head.now _ _ _ _ c.loop-left.sink c.loop-left.left so c.requires.head (omega (arith, c.loop-left-test.true)) c.in-Err.ensures.stays;
    }

pub returns-in_default-clause-feeds : goal.returns-in_default-clause-feeds
returns-in_default-clause-feeds g c =
    let so = fed_read (unread c.args.input.now) _ _ _ _ _ _ _ _ _ _ _ _ c.loop-left.sink _ c.requires.head (omega (arith, c.loop-left-test.true)) c.loop-left.invariant.0 c.fill.ensures.reads in
    record {
      left = c.loop-left.left;
      so_far = fed_kept (unread c.args.input.now) _ _ _ c.args.head.now _ (unread c.feed_read.new.input) _ _ _ _ c.loop-left.sink c.feed_read.new.sink c.loop-left.left so c.in_default.ensures.refused.0 c.in_default.ensures.refused.1 c.feed_read.ensures.turns;
      ends = omega (arith, c.loop-left-test.true);
    }
