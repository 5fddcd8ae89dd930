use Rattle.society_commands.proofs.lemmas.ClosingLemmas.{copied_book}
use Rattle.society_commands.proofs.closing.close_tables.Goals as goal

pub returns-in-Ok-clause-closed : goal.returns-in-Ok-clause-closed
returns-in-Ok-clause-closed g c = λ clean. copied_book c.args.tables.office c.args.tables.conn c.in-Ok.files c.args.tables.rests (rw c.into_connection.ensures.same at (c.in-Ok.ensures.copied clean))

pub returns-in-Err-clause-closed : goal.returns-in-Err-clause-closed
returns-in-Err-clause-closed g c = rw c.into_connection.ensures.same at c.in-Err.ensures.err
