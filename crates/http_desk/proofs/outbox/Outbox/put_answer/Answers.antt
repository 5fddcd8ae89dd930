use Rattle.std.proofs.Common.{length}
use Rattle.std.proofs.lemmas.List.{append-nil}
use Rattle.http_desk.specs.Counted.{inner_of}
use Rattle.http_desk.specs.Outbox.{waiting}
use Rattle.http_text.specs.Text.{code_of, head_text, type_text}
use Rattle.http_desk.proofs.lemmas.Known.{AppendsFront-is, AppendsFront-longer, Gathers-unwritten, Gathers-written}
use Rattle.http_desk.proofs.outbox.Outbox.put_answer.Goals as goal

pub returns-in_default-clause-gathers : goal.returns-in_default-clause-gathers
returns-in_default-clause-gathers g c =
    AppendsFront-longer (g.W.Write.contents (inner_of c.args.writer.now)) (g.W.Write.contents (inner_of c.flush_if_full.new.writer)) (waiting c.args.self.now) _
    (AppendsFront-is _ _ _ _ c.in_default.ensures.gathers (append-nil (waiting c.args.self.now)))

pub returns-in_default-flush-clause-gathers : goal.returns-in_default-flush-clause-gathers
returns-in_default-flush-clause-gathers g c =
    Gathers-unwritten (g.W.Write.contents (inner_of c.args.writer.now)) (g.W.Write.contents (inner_of c.flush_if_full.new.writer)) (g.W.Write.contents (inner_of c.flush.new.writer)) (waiting c.args.self.now) (waiting c.flush_if_full.new.self)
    (head_text (code_of c.args.status) (type_text c.args.content_type) (length c.args.body.now) c.args.close) c.args.body.now c.put_head.new.out.items
    c.in-Ok.ensures.gathers c.put_head.ensures.items c.in_default-flush.ensures.wrote

pub returns-clause-gathers : goal.returns-clause-gathers
returns-clause-gathers g c =
    Gathers-written c.write_all.result (g.W.Write.contents (inner_of c.args.writer.now)) (g.W.Write.contents (inner_of c.flush_if_full.new.writer)) (g.W.Write.contents (inner_of c.flush.new.writer)) (g.W.Write.contents (inner_of c.write_all.new.self)) (waiting c.args.self.now) (waiting c.flush_if_full.new.self)
    (head_text (code_of c.args.status) (type_text c.args.content_type) (length c.args.body.now) c.args.close) c.args.body.now c.put_head.new.out.items (waiting c.flush.new.self)
    c.in-Ok.ensures.gathers c.put_head.ensures.items c.in-Ok-flush.ensures.wrote c.write_all.ensures.wrote c.in-Ok-flush.ensures.empty
