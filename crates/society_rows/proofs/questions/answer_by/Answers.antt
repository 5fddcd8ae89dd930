use Rattle.std.proofs.Common.{rules}
use Rattle.sqlite.specs.Held.{state}
use Rattle.society_rows.proofs.lemmas.errors.Told.{query_errs_laid, query_tells_laid}
use Rattle.society_rows.proofs.lemmas.readings.Queries.{reads_laid}
use Rattle.society_rows.proofs.lemmas.readings.QuestionQueries.{asked}
use Rattle.society_rows.proofs.questions.answer_by.Goals as goal

pub returns-clause-read : goal.returns-clause-read
returns-clause-read g c = record {
  same_reference = search rules;
  says =
      reads_laid (asked c.args.question) (state g.S.Store c.args.tx.now.conn.now) (state g.S.Store c.select.new.tx.conn.now) c.select.result (λ clean. rw (c.query_of.ensures, c.requires) at (c.select.ensures.selected clean)) c.select.ensures.survives;
}

pub returns-clause-err : goal.returns-clause-err
returns-clause-err g c =
    query_tells_laid (asked c.args.question) (state g.S.Store c.args.tx.now.conn.now) (state g.S.Store c.select.new.tx.conn.now) c.select.result (λ clean. rw (c.query_of.ensures, c.requires) at (c.select.ensures.selected clean))

pub returns-clause-medium : goal.returns-clause-medium
returns-clause-medium g c =
    query_errs_laid (asked c.args.question) (state g.S.Store c.args.tx.now.conn.now) (state g.S.Store c.select.new.tx.conn.now) c.select.result (λ clean. rw (c.query_of.ensures, c.requires) at (c.select.ensures.selected clean))
