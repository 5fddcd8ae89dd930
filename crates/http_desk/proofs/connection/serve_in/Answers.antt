use Rattle.std.proofs.Common.{◌+◌, ◌*◌, ◌<◌, ◌∙◌, length, refl, sym, subst, arith}
use Rattle.http_text.specs.declared.connection_end.End.TheVariants.{Closed}
use Rattle.http_desk.specs.declared.input.Input.{Input}
use Rattle.http_desk.specs.Input.{unread}
use Rattle.http_desk.specs.Outbox.{waiting}
use Rattle.http_text.specs.Told.{told_reply}
use Rattle.http_desk.proofs.lemmas.ServeLemmas.{SoFar-start, SoFar-next, SoFar-reads, SoFar-same, SoFar-input, ends_there, finishes, ended_served, ended_fault, ended_cause, given_up, keeps_turns, countable, goes_on, closes_on, failed, fewer, smaller, rises_from}
use Rattle.http_desk.proofs.connection.serve_in.Goals as goal

pub loop-answered-init : goal.loop-answered-init
loop-answered-init g c =
    (SoFar-start g.S.Store.state _ (unread c.args.room.now.input) _ _ _ _ _ _ c.requires.unread refl c.requires.waiting c.args.reader.now.reads_fit, c.requires.ready, refl, refl, refl)

-- ---- the end

pub returns-in-Ok-Ended-clause-served : goal.returns-in-Ok-Ended-clause-served
returns-in-Ok-Ended-clause-served g c =
    let n = rw c.in-Ok-Ended.field-0-is at c.in-Ok-Ended.ensures.comes in
    let before = SoFar-next g.S.Store.state _ _ _ _ n.bytes _ _ _ _ _ _ _ _ _ _ (g.W.Write.contents c.answer_upcoming.new.writer.inner) _ (waiting c.answer_upcoming.new.room.outbox) _ c.loop-answered.invariant.0 n.reads c.in-Ok-Ended.ensures.sends in
    let so = SoFar-same g.S.Store.state c.loop-answered.desk c.answer_upcoming.new.desk _ _ n.bytes _ _ _ _ _ _ (g.W.Write.contents c.answer_upcoming.new.writer.inner) (waiting c.answer_upcoming.new.room.outbox) _ n.comes.1 before in
    ended_served g.S.Store.state _ _ _ _ _ (g.W.Write.contents c.close_with.new.writer.inner) _ _ c.in-Ok-Ended.end
    (finishes g.S.Store.state _ _ n.bytes _ _ _ _ _ _ _ _ (waiting c.answer_upcoming.new.room.outbox) _ so c.in-Ok-Ended.end (ends_there g.S.Store.state c.loop-answered.desk c.answer_upcoming.new.desk n.bytes (g.R.Read.remaining c.answer_upcoming.new.reader.inner) c.in-Ok-Ended.end n.comes.1 n.comes.0)) c.close_with.result c.close_with.ensures.served

pub returns-in-Ok-Ended-clause-err : goal.returns-in-Ok-Ended-clause-err
returns-in-Ok-Ended-clause-err g c =
    let n = rw c.in-Ok-Ended.field-0-is at c.in-Ok-Ended.ensures.comes in
    let before = SoFar-next g.S.Store.state _ _ _ _ n.bytes _ _ _ _ _ _ _ _ _ _ (g.W.Write.contents c.answer_upcoming.new.writer.inner) _ (waiting c.answer_upcoming.new.room.outbox) _ c.loop-answered.invariant.0 n.reads c.in-Ok-Ended.ensures.sends in
    let so = SoFar-same g.S.Store.state c.loop-answered.desk c.answer_upcoming.new.desk _ _ n.bytes _ _ _ _ _ _ (g.W.Write.contents c.answer_upcoming.new.writer.inner) (waiting c.answer_upcoming.new.room.outbox) _ n.comes.1 before in
    ended_cause g.S.Store.state g.R.Read.remaining g.W.Write.contents c.args.desk.now c.answer_upcoming.new.desk c.args.reader.now c.answer_upcoming.new.reader c.args.writer.now c.answer_upcoming.new.writer c.close_with.new.writer
    c.args.room.now.input.turns _ _ c.close_with.result (c.in-Ok-Ended.ensures.kept_writer ∙ c.loop-answered.invariant.3) c.close_with.ensures.err
    (ended_fault g.S.Store.state _ _ _ _ _ (g.W.Write.contents c.close_with.new.writer.inner) _ _ c.in-Ok-Ended.end
    (finishes g.S.Store.state _ _ n.bytes _ _ _ _ _ _ _ _ (waiting c.answer_upcoming.new.room.outbox) _ so c.in-Ok-Ended.end (ends_there g.S.Store.state c.loop-answered.desk c.answer_upcoming.new.desk n.bytes (g.R.Read.remaining c.answer_upcoming.new.reader.inner) c.in-Ok-Ended.end n.comes.1 n.comes.0)) _ _ c.close_with.result c.close_with.ensures.err)

pub returns-in-Ok-Ended-clause-turns : goal.returns-in-Ok-Ended-clause-turns
returns-in-Ok-Ended-clause-turns g c =
    let n = rw c.in-Ok-Ended.field-0-is at c.in-Ok-Ended.ensures.comes in
    let so = SoFar-reads g.S.Store.state _ _ _ _ n.bytes _ _ _ _ _ _ _ _ _ _ _ _ c.loop-answered.invariant.0 n.reads in
    keeps_turns g.S.Store.state g.R.Read.remaining c.args.reader.now c.answer_upcoming.new.reader n.bytes _ _ _ _ _ _ _ _ (let met = rw c.in-Ok-Ended.field-0-is at c.in-Ok-Ended.ensures.met in omega (arith, met, c.loop-answered.invariant.4)) so

-- ---- no request came

pub returns-in-Err-clause-err : goal.returns-in-Err-clause-err
returns-in-Err-clause-err g c =
    let n = c.in-Err.ensures.stops in
    let before = SoFar-reads g.S.Store.state _ _ _ _ n.bytes _ _ _ _ _ _ _ _ _ _ _ _ c.loop-answered.invariant.0 n.reads in
    let so = SoFar-same g.S.Store.state c.loop-answered.desk c.answer_upcoming.new.desk _ _ n.bytes _ _ _ _ _ _ _ _ _ n.same before in
    given_up g.S.Store.state g.R.Read.remaining g.W.Write.contents c.args.desk.now c.answer_upcoming.new.desk c.args.reader.now c.loop-answered.reader c.answer_upcoming.new.reader c.args.writer.now c.loop-answered.writer c.answer_upcoming.new.writer
    n.bytes _ c.args.room.now.input.turns c.loop-answered.requests (waiting c.loop-answered.room.outbox) so c.loop-answered.invariant.2 c.loop-answered.invariant.3 c.in-Err.kind n.stops

pub returns-in-Err-clause-turns : goal.returns-in-Err-clause-turns
returns-in-Err-clause-turns g c =
    let n = c.in-Err.ensures.stops in
    let so = SoFar-reads g.S.Store.state _ _ _ _ n.bytes _ _ _ _ _ _ _ _ _ _ _ _ c.loop-answered.invariant.0 n.reads in
    keeps_turns g.S.Store.state g.R.Read.remaining c.args.reader.now c.answer_upcoming.new.reader n.bytes _ _ _ _ _ _ _ _ (omega (arith, c.in-Err.ensures.unmet, c.loop-answered.invariant.4)) so

-- ---- one more request

pub overflow_add-requests : goal.overflow_add-requests
overflow_add-requests g c =
    let n = rw c.in-Ok-Request.field-0-is at c.in-Ok-Request.ensures.comes in
    let so = SoFar-next g.S.Store.state _ _ _ _ n.bytes _ _ _ _ _ _ _ _ _ _ (g.W.Write.contents c.answer_upcoming.new.writer.inner) _ (waiting c.answer_upcoming.new.room.outbox) _ c.loop-answered.invariant.0 n.reads c.in-Ok-Request.ensures.sends in
    let t = n.comes in
    let most = countable g.S.Store.state _ _ n.bytes (unread c.answer_upcoming.new.room.input) _ _ _ _ _ _ c.answer_upcoming.new.desk _ _ (g.W.Write.contents c.answer_upcoming.new.writer.inner) (waiting c.answer_upcoming.new.room.outbox) (waiting c.answer_upcoming.new.room.outbox) _ so t.part t.is_part t.whole _ t.is_last (told_reply c.in-Ok-Request.answered.told) t.step in
    omega (arith, most, c.requires.turns)

pub returns-in_default-clause-err : goal.returns-in_default-clause-err
returns-in_default-clause-err g c =
    let n = rw c.in-Ok-Request.field-0-is at c.in-Ok-Request.ensures.comes in
    let so = SoFar-next g.S.Store.state _ _ _ _ n.bytes _ _ _ _ _ _ _ _ _ _ (g.W.Write.contents c.answer_upcoming.new.writer.inner) _ (waiting c.answer_upcoming.new.room.outbox) _ c.loop-answered.invariant.0 n.reads c.in-Ok-Request.ensures.sends in
    let t = n.comes in
    record {
      breaks = failed g.S.Store.state _ _ n.bytes (unread c.answer_upcoming.new.room.input) _ _ _ _ _ _ c.answer_upcoming.new.desk _ _ (g.W.Write.contents c.send.new.writer.inner) (waiting c.answer_upcoming.new.room.outbox) (waiting c.send.new.room.outbox) _ so t.part t.is_part t.whole _ t.is_last (told_reply c.in-Ok-Request.answered.told) t.step c.in_default.ensures.gathers;
      cause = rises_from _ _ _ (c.in-Ok-Request.ensures.kept_writer ∙ c.loop-answered.invariant.3) c.in_default.ensures.err;
    }

pub returns-in_default-clause-turns : goal.returns-in_default-clause-turns
returns-in_default-clause-turns g c =
    let n = rw c.in-Ok-Request.field-0-is at c.in-Ok-Request.ensures.comes in
    let so = SoFar-reads g.S.Store.state _ _ _ _ n.bytes _ _ _ _ _ _ _ _ _ _ _ _ c.loop-answered.invariant.0 n.reads in
    keeps_turns g.S.Store.state g.R.Read.remaining c.args.reader.now c.answer_upcoming.new.reader n.bytes _ _ _ _ _ _ _ _ (let met = rw c.in-Ok-Request.field-0-is at c.in-Ok-Request.ensures.met in omega (arith, met, c.loop-answered.invariant.4)) so

pub returns-then-answered-clause-served : goal.returns-then-answered-clause-served
returns-then-answered-clause-served g c =
    let n = rw c.in-Ok-Request.field-0-is at c.in-Ok-Request.ensures.comes in
    let so = SoFar-next g.S.Store.state _ _ _ _ n.bytes _ _ _ _ _ _ _ _ _ _ (g.W.Write.contents c.answer_upcoming.new.writer.inner) _ (waiting c.answer_upcoming.new.room.outbox) _ c.loop-answered.invariant.0 n.reads c.in-Ok-Request.ensures.sends in
    let t = n.comes in
    ended_served g.S.Store.state _ _ _ _ _ (g.W.Write.contents c.close_with-then-answered.new.writer.inner) _ _ Closed
    (closes_on g.S.Store.state _ _ n.bytes (unread c.answer_upcoming.new.room.input) _ _ _ _ _ _ c.answer_upcoming.new.desk _ _ (g.W.Write.contents c.send.new.writer.inner) (waiting c.answer_upcoming.new.room.outbox) (waiting c.send.new.room.outbox) _ so t.part t.is_part t.whole _ t.is_last (told_reply c.in-Ok-Request.answered.told) t.step
    c.if-answered.true c.in-Ok.ensures.gathers) c.close_with-then-answered.result c.close_with-then-answered.ensures.served

pub returns-then-answered-clause-err : goal.returns-then-answered-clause-err
returns-then-answered-clause-err g c =
    let n = rw c.in-Ok-Request.field-0-is at c.in-Ok-Request.ensures.comes in
    let so = SoFar-next g.S.Store.state _ _ _ _ n.bytes _ _ _ _ _ _ _ _ _ _ (g.W.Write.contents c.answer_upcoming.new.writer.inner) _ (waiting c.answer_upcoming.new.room.outbox) _ c.loop-answered.invariant.0 n.reads c.in-Ok-Request.ensures.sends in
    let t = n.comes in
    ended_cause g.S.Store.state g.R.Read.remaining g.W.Write.contents c.args.desk.now c.answer_upcoming.new.desk c.args.reader.now c.answer_upcoming.new.reader c.args.writer.now c.send.new.writer c.close_with-then-answered.new.writer
    c.args.room.now.input.turns _ _ c.close_with-then-answered.result (c.in-Ok.ensures.kept ∙ c.in-Ok-Request.ensures.kept_writer ∙ c.loop-answered.invariant.3) c.close_with-then-answered.ensures.err
    (ended_fault g.S.Store.state _ _ _ _ _ (g.W.Write.contents c.close_with-then-answered.new.writer.inner) _ _ Closed
    (closes_on g.S.Store.state _ _ n.bytes (unread c.answer_upcoming.new.room.input) _ _ _ _ _ _ c.answer_upcoming.new.desk _ _ (g.W.Write.contents c.send.new.writer.inner) (waiting c.answer_upcoming.new.room.outbox) (waiting c.send.new.room.outbox) _ so t.part t.is_part t.whole _ t.is_last (told_reply c.in-Ok-Request.answered.told) t.step
    c.if-answered.true c.in-Ok.ensures.gathers) _ _ c.close_with-then-answered.result c.close_with-then-answered.ensures.err)

pub returns-then-answered-clause-turns : goal.returns-then-answered-clause-turns
returns-then-answered-clause-turns g c =
    let n = rw c.in-Ok-Request.field-0-is at c.in-Ok-Request.ensures.comes in
    let so = SoFar-reads g.S.Store.state _ _ _ _ n.bytes _ _ _ _ _ _ _ _ _ _ _ _ c.loop-answered.invariant.0 n.reads in
    keeps_turns g.S.Store.state g.R.Read.remaining c.args.reader.now c.answer_upcoming.new.reader n.bytes _ _ _ _ _ _ _ _ (let met = rw c.in-Ok-Request.field-0-is at c.in-Ok-Request.ensures.met in omega (arith, met, c.loop-answered.invariant.4)) so

pub loop-answered-smaller : goal.loop-answered-smaller
loop-answered-smaller g c =
    let n = rw c.in-Ok-Request.field-0-is at c.in-Ok-Request.ensures.comes in
    let so = SoFar-next g.S.Store.state _ _ _ _ n.bytes _ _ _ _ _ _ _ _ _ _ (g.W.Write.contents c.answer_upcoming.new.writer.inner) _ (waiting c.answer_upcoming.new.room.outbox) _ c.loop-answered.invariant.0 n.reads c.in-Ok-Request.ensures.sends in
    let t = n.comes in
    let less = fewer g.S.Store.state _ _ n.bytes (unread c.answer_upcoming.new.room.input) _ _ _ _ _ _ c.answer_upcoming.new.desk _ _ (g.W.Write.contents c.answer_upcoming.new.writer.inner) (waiting c.answer_upcoming.new.room.outbox) (waiting c.answer_upcoming.new.room.outbox) _ so t.part t.is_part t.whole _ t.is_last (told_reply c.in-Ok-Request.answered.told) t.step in
    let P : Input → Type 0 = λ i. length (unread i) + i.turns * 16384 < length (unread c.loop-answered.room.input) + c.loop-answered.room.input.turns * 16384 in
    subst P (sym c.send.ensures.input) (smaller _ n.bytes (unread c.answer_upcoming.new.room.input) _ _ _ _ _ _ n.reads less)

pub loop-answered-preserved : goal.loop-answered-preserved
loop-answered-preserved g c =
    let n = rw c.in-Ok-Request.field-0-is at c.in-Ok-Request.ensures.comes in
    let so = SoFar-next g.S.Store.state _ _ _ _ n.bytes _ _ _ _ _ _ _ _ _ _ (g.W.Write.contents c.answer_upcoming.new.writer.inner) _ (waiting c.answer_upcoming.new.room.outbox) _ c.loop-answered.invariant.0 n.reads c.in-Ok-Request.ensures.sends in
    let t = n.comes in
    let on = goes_on g.S.Store.state _ _ n.bytes (unread c.answer_upcoming.new.room.input) _ _ _ _ _ _ c.answer_upcoming.new.desk _ _ (g.W.Write.contents c.send.new.writer.inner) (waiting c.answer_upcoming.new.room.outbox) (waiting c.send.new.room.outbox) _ so t.part t.is_part t.whole _ t.is_last (told_reply c.in-Ok-Request.answered.told) t.step c.if-answered.false c.in-Ok.ensures.gathers in (
      SoFar-input g.S.Store.state _ _ _ c.send.new.room.input _ _ _ _ _ _ (g.W.Write.contents c.send.new.writer.inner) (waiting c.send.new.room.outbox) _ c.send.ensures.input on,
      c.send.ensures.ready,
      c.in-Ok-Request.ensures.kept ∙ c.loop-answered.invariant.2,
      c.in-Ok.ensures.kept ∙ c.in-Ok-Request.ensures.kept_writer ∙ c.loop-answered.invariant.3,
      (let met = rw c.in-Ok-Request.field-0-is at c.in-Ok-Request.ensures.met in met ∙ c.loop-answered.invariant.4),
    )
