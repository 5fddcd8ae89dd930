use Rattle.std.proofs.Common.{refl}
use Rattle.http_desk.proofs.lemmas.ServeLemmas.{clean_falls, no_turn, nothing_read, office_stays}
use Rattle.http_desk.proofs.connection.serve.Goals as goal

pub returns-in-Err-clause-err : goal.returns-in-Err-clause-err
returns-in-Err-clause-err g c = record { breaks = nothing_read g.S.Store.state _ _ _; cause = (refl, refl, refl) }

pub returns-in-Err-clause-turns : goal.returns-in-Err-clause-turns
returns-in-Err-clause-turns g c = no_turn g.R.Read.remaining c.args.reader.now _ c.args.reader.now.reads_fit

pub returns-in-Ok-clause-office : goal.returns-in-Ok-clause-office
returns-in-Ok-clause-office g c =
    office_stays g.S.Store.state g.R.Read.remaining g.W.Write.contents c.args.desk.now c.serve_in.new.desk c.args.reader.now c.serve_in.new.reader c.args.writer.now c.serve_in.new.writer _
    c.serve_in.result c.serve_in.ensures.served c.serve_in.ensures.err

pub returns-in-Ok-clause-clean : goal.returns-in-Ok-clause-clean
returns-in-Ok-clause-clean g c =
    clean_falls g.S.Store.state g.R.Read.remaining g.W.Write.contents c.args.desk.now c.serve_in.new.desk c.args.reader.now c.serve_in.new.reader c.args.writer.now c.serve_in.new.writer _
    c.serve_in.result c.serve_in.ensures.served c.serve_in.ensures.err
