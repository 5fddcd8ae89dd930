use Rattle.std.proofs.Common.{refl}
use Rattle.http_desk.specs.Input.{unread}
use Rattle.http_text.specs.Reads.{Awaits}
use Rattle.http_text.specs.declared.requests.Wanted.TheVariants.{Whole}
use Rattle.http_desk.proofs.lemmas.AnsweringLemmas.{part_asks, takes_part}
use Rattle.http_desk.proofs.lemmas.UpcomingLemmas.{ReadsOn-spare}
use Rattle.http_desk.proofs.answering.answer_whole.Goals as goal

pub returns-in-Ok-Request-clause-comes : goal.returns-in-Ok-Request-clause-comes
returns-in-Ok-Request-clause-comes g c =
    let has = (rw c.in-Ok-Request.field-0-is at c.in-Ok-Request.ensures.next) 0 in
    let after = c.answer_next-told in
    record {
      bytes = unread c.whole_request.new.input;
      reads = ReadsOn-spare Awaits _ _ _ _ after.new.room.input.turns _ _ _ _ c.whole_request.ensures.reads after.ensures.turns;
      comes =
          takes_part g.S.Store.state c.args.desk.now after.new.desk (unread c.whole_request.new.input) (unread after.new.room.input) after.result _ c.in-Ok-Request.whole has
          after.ensures.taken refl (after.ensures.step has);
    }

pub answer_next-told-requires-clause-asks : goal.answer_next-told-requires-clause-asks
answer_next-told-requires-clause-asks g c =
    let reads = c.whole_request.ensures.reads in
    part_asks (g.S.Store.state c.args.desk.now).office.society (unread c.args.room.now.input) _ reads.more c.args.head c.in-Ok-Request.whole (Whole c.args.wanted) c.requires.head reads.grown c.requires.asks

pub answer_next-told-requires-clause-part : goal.answer_next-told-requires-clause-part
answer_next-told-requires-clause-part g c = (rw c.in-Ok-Request.field-0-is at c.in-Ok-Request.ensures.next) 0

pub returns-in-Ok-Ended-clause-comes : goal.returns-in-Ok-Ended-clause-comes
returns-in-Ok-Ended-clause-comes g c =
    let ends = (rw c.in-Ok-Ended.field-0-is at c.in-Ok-Ended.ensures.next) (g.S.Store.state c.args.desk.now).office.society in
    record { bytes = unread c.whole_request.new.input; reads = c.whole_request.ensures.reads; comes = (ends, refl) }
