use Rattle.http_text.proofs.told.tell.Goals as goal

pub returns-in-Err-clause-ready : goal.returns-in-Err-clause-ready
returns-in-Err-clause-ready c = tt
