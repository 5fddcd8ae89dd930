use Rattle.std.proofs.Common.{refl}
use Rattle.http_desk.specs.Input.{unread}
use Rattle.http_desk.specs.Outbox.{waiting}
use Rattle.http_desk.proofs.lemmas.AnsweringLemmas.{came, left_by}
use Rattle.http_desk.proofs.answering.answer_upcoming.Goals as goal

pub returns-in-Ok-Request-clause-comes : goal.returns-in-Ok-Request-clause-comes
returns-in-Ok-Request-clause-comes g c =
    came g.S.Store.state g.R.Read.remaining c.args.desk.now c.answer_head.new.desk c.args.reader.now c.next_answered.new.reader c.answer_head.new.reader c.args.room.now.input c.next_answered.new.input c.answer_head.new.room.input
    c.answer_head.result c.next_answered.ensures.reads c.answer_head.ensures.comes

pub returns-in-Ok-Request-clause-stops : goal.returns-in-Ok-Request-clause-stops
returns-in-Ok-Request-clause-stops g c =
    left_by g.S.Store.state g.R.Read.remaining g.W.Write.contents c.args.desk.now c.answer_head.new.desk c.args.reader.now c.next_answered.new.reader c.answer_head.new.reader c.args.writer.now c.next_answered.new.writer
    c.args.room.now.input c.next_answered.new.input c.answer_head.new.room.input (waiting c.args.room.now.outbox) (waiting c.next_answered.new.outbox) c.in-Ok-Request.head c.answer_head.result
    c.next_answered.ensures.reads c.in-Ok-Request.ensures.kept c.in-Ok-Request.ensures.sends (rw c.in-Ok-Request.field-0-is at c.in-Ok-Request.ensures.written) c.answer_head.ensures.comes c.answer_head.ensures.err

pub answer_head-requires-clause-head : goal.answer_head-requires-clause-head
answer_head-requires-clause-head g c = (rw c.in-Ok-Request.field-0-is at c.in-Ok-Request.ensures.next) 0

pub returns-in-Ok-Ended-clause-comes : goal.returns-in-Ok-Ended-clause-comes
returns-in-Ok-Ended-clause-comes g c =
    let ends = (rw c.in-Ok-Ended.field-0-is at c.in-Ok-Ended.ensures.next) (g.S.Store.state c.args.desk.now).office.society in
    record { bytes = unread c.next_answered.new.input; reads = c.next_answered.ensures.reads; comes = (ends, refl) }
