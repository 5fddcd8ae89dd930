use Rattle.std.proofs.Common.{rules}
use Rattle.sqlite.specs.Held.{state}
use Rattle.society_rows.specs.Layouts.{HasTable}
use Rattle.society_rows.specs.Listings.{ListsAll}
use Rattle.society_rows.specs.Stored.{HasLayout}
use Rattle.society_rows.proofs.lemmas.definitions.FirstTables.{has_table}
use Rattle.society_rows.proofs.lemmas.readings.Queries.{reads_where}
use Rattle.society_book.proofs.lemmas.together.JudgedLemmas.{examines_reads}
use Rattle.book_audit.proofs.reading.list_of.Goals as goal

pub returns : goal.returns
returns g c = record {
  examined = record {
    same_reference = search rules;
    says =
        let table = c.args.table in
        let old = state g.S.Store c.args.tx.now.conn.now in
        let new = state g.S.Store c.all_rows.new.tx.conn.now in
        examines_reads old new c.all_rows.result _ (reads_where (HasTable table) HasLayout old new _ (λ db rows. ListsAll table db rows.items) (has_table table old.now) c.all_rows.ensures.read.says)
        (λ clean has. c.all_rows.ensures.err clean (has_table table old.now has)) (λ clean has. c.all_rows.ensures.medium clean (has_table table old.now has));
  };
}
