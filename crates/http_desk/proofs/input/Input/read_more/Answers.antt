use Rattle.std.proofs.Common.{rules, arith, take, refl}
use Rattle.http_desk.proofs.lemmas.UpcomingLemmas.{grown_behind, ReadsOn-failed, ReadsOn-piece, ReadsOn-same}
use Rattle.http_desk.proofs.input.Input.read_more.Goals as goal

pub returns-then-self-eq0-clause-reads : goal.returns-then-self-eq0-clause-reads
returns-then-self-eq0-clause-reads g c = ReadsOn-same _ _ _ _ _ _ _ refl refl c.args.reader.now.reads_fit

pub returns-in-Ok-clause-reads : goal.returns-in-Ok-clause-reads
returns-in-Ok-clause-reads g c =
    let before = c.make_room.new.self in
    ReadsOn-piece (λ bytes. Unit {0}) _ _ (take c.in-Ok.count c.read.new.buffer) _ _ _ _ _ _ tt (grown_behind before.bytes.items _ _ _ before.start (omega (arith, before.ordered, before.bytes.ok.0)) (search rules) c.make_room.ensures.bytes) c.in-Ok.ensures.bytes.0 (search rules) (search rules) (search rules)

pub returns-in-Err-clause-reads : goal.returns-in-Err-clause-reads
returns-in-Err-clause-reads g c =
    ReadsOn-failed _ _ _ _ _ _ _ _ _ c.make_room.ensures.bytes c.make_room.ensures.turns c.in-Err.ensures.bytes c.in-Err.ensures.uncounted c.args.reader.now.reads_fit

pub returns-in-Err-clause-err : goal.returns-in-Err-clause-err
returns-in-Err-clause-err g c = search rules

pub returns-in-Ok-eq0-clause-reads : goal.returns-in-Ok-eq0-clause-reads
returns-in-Ok-eq0-clause-reads g c = search rules

pub returns-in-Ok-eq0-clause-end : goal.returns-in-Ok-eq0-clause-end
returns-in-Ok-eq0-clause-end g c = search rules

pub returns-in-Ok-eq0-clause-met : goal.returns-in-Ok-eq0-clause-met
returns-in-Ok-eq0-clause-met g c = search rules

pub returns-in-Ok-eq0-clause-kept : goal.returns-in-Ok-eq0-clause-kept
returns-in-Ok-eq0-clause-kept g c = search rules
