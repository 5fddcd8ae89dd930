use Rattle.http_desk.specs.Counted.{inner_of}
use Rattle.http_desk.specs.Outbox.{waiting}
use Rattle.http_desk.proofs.lemmas.Known.{Writes-sent}
use Rattle.http_desk.proofs.reply.write_end.Goals as goal

pub returns-clause-wrote : goal.returns-clause-wrote
returns-clause-wrote g c =
    Writes-sent c.flush.result _ (g.W.Write.contents (inner_of c.put_end.new.writer)) _ _ (waiting c.put_end.new.outbox) c.in-Ok.ensures.gathers c.flush.ensures.wrote
