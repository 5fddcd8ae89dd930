use Rattle.std.proofs.Common.{rules}
use Rattle.sqlite.specs.Held.{state}
use Rattle.society_rows.proofs.lemmas.errors.Told.{query_errs, query_tells}
use Rattle.society_rows.proofs.lemmas.readings.Queries.{reads}
use Rattle.society_rows.proofs.lemmas.readings.TableQueries.{listed}
use Rattle.society_rows.proofs.tables.all_rows.Goals as goal

pub returns-clause-read : goal.returns-clause-read
returns-clause-read g c = record {
  same_reference = search rules;
  says =
      reads (listed c.args.table) (state g.S.Store c.args.tx.now.conn.now) (state g.S.Store c.select.new.tx.conn.now) c.select.result (λ clean. rw c.shape_of.ensures.listing at (c.select.ensures.selected clean)) c.select.ensures.survives;
}

pub returns-clause-err : goal.returns-clause-err
returns-clause-err g c =
    query_tells (listed c.args.table) (state g.S.Store c.args.tx.now.conn.now) (state g.S.Store c.select.new.tx.conn.now) c.select.result (λ clean. rw c.shape_of.ensures.listing at (c.select.ensures.selected clean))

pub returns-clause-medium : goal.returns-clause-medium
returns-clause-medium g c =
    query_errs (listed c.args.table) (state g.S.Store c.args.tx.now.conn.now) (state g.S.Store c.select.new.tx.conn.now) c.select.result (λ clean. rw c.shape_of.ensures.listing at (c.select.ensures.selected clean))
