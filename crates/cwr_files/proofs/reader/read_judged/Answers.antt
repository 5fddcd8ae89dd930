use Rattle.std.proofs.Common.{sym, ◌∙◌}
use Rattle.cwr_files.proofs.lemmas.Judged.{headed, small, found, reads_in, only_one, no_other}
use Rattle.cwr_files.proofs.reader.read_judged.Goals as goal

pub returns-in-Some-clause-only : goal.returns-in-Some-clause-only
returns-in-Some-clause-only c = λ t h. no_other c.args.sender.now c.args.body.now c.in-Some.fault t (sym c.requires ∙ c.in-Some.is) h

pub contents-requires-clause-headed : goal.contents-requires-clause-headed
contents-requires-clause-headed c = headed c.args.sender.now c.args.body.now (sym c.requires ∙ c.in_default.is)

pub contents-requires-clause-room : goal.contents-requires-clause-room
contents-requires-clause-room c = small c.args.sender.now c.args.body.now (sym c.requires ∙ c.in_default.is)

pub returns-clause-found : goal.returns-clause-found
returns-clause-found c = found c.args.sender.now c.args.body.now _ (sym c.requires ∙ c.in_default.is) c.in_ok-transmission.ensures

pub returns-clause-only : goal.returns-clause-only
returns-clause-only c = λ t h. reads_in c.args.body.now _ c.in_ok-transmission.ensures ∙ sym (only_one c.args.sender.now c.args.body.now t h.0)

pub returns-clause-reads : goal.returns-clause-reads
returns-clause-reads c = reads_in c.args.body.now _ c.in_ok-transmission.ensures
