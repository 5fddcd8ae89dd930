use Rattle.std.proofs.Common.{map, rules}
use Rattle.sqlite.specs.Held.{state}
use Rattle.society_rows.specs.Layout as layout
use Rattle.society_rows.specs.Rows.{credit_values}
use Rattle.society_book.specs.Steps.{Never}
use Rattle.book_derivation.proofs.lemmas.Derivings.{derives_also}
use Rattle.book_derivation.proofs.lemmas.Writes.{credits_table_derived, derives_adds}
use Rattle.book_derivation.proofs.credits.add_lines.Goals as goal

pub returns : goal.returns
returns g c = record {
  derives = record {
    same_reference = search rules;
    says =
        let old = state g.S.Store c.args.tx.now.conn.now in
        let new = state g.S.Store c.add_all.new.tx.conn.now in
        derives_also Never Never old new c.wrote.result _ _
        (derives_adds layout.credits_table (map credit_values c.args.lines.now) old new c.add_all.result c.wrote.result credits_table_derived c.add_all.ensures.written.says c.add_all.ensures.blamed c.wrote.ensures.done c.wrote.ensures.err)
        (λ done own adds. record { rows = adds.rows; others = adds.others }) (λ never. never);
  };
}
