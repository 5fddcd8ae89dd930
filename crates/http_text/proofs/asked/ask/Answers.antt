use Rattle.std.proofs.Common.{rules}
use Rattle.http_text.proofs.lemmas.StepLemmas.{fed_call}
use Rattle.http_text.proofs.asked.ask.Goals as goal

pub returns-in-Ok : goal.returns-in-Ok
returns-in-Ok g c = fed_call g.S.Store.state c.args.desk.now c.put_fed.new.self c.args.asked c.in-Fed.field-0 _ c.in-Fed.is c.in-Ok.ensures

pub returns-in-Err : goal.returns-in-Err
returns-in-Err g c = fed_call g.S.Store.state c.args.desk.now c.put_fed.new.self c.args.asked c.in-Fed.field-0 _ c.in-Fed.is c.in-Err.ensures

pub returns-in-Whole : goal.returns-in-Whole
returns-in-Whole g c = search rules
