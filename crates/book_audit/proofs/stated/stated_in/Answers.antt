use Rattle.std.proofs.Common.{List, subst, sym, rules}
use Rattle.sqlite.specs.Held.{state}
use Rattle.sqlite_value.specs.Order.{Row}
use Rattle.society_rows.specs.Listings.{ListsAll}
use Rattle.society_rows.specs.declared.tables.TableName.TheVariants as name
use Rattle.society_book.proofs.lemmas.together.JudgedLemmas.{examines_as}
use Rattle.society_book.specs.Steps.{Never}
use Rattle.book_audit.specs.Judging.{AreStated}
use Rattle.book_audit.proofs.lemmas.entries.StatedRows.{right_lasts, wrong_lasts}
use Rattle.book_audit.proofs.stated.stated_in.Goals as goal

pub returns : goal.returns
returns g c = record {
  examined = record {
    same_reference = search rules;
    says =
        let old = state g.S.Store c.args.tx.now.conn.now in
        let db = old.now.trees in
        let rows = c.as_slice.result.now in
        let listed = λ (lists : ListsAll name.SegmentEnds db c.in_ok-rows.rows.items). subst (λ (l : List Row). ListsAll name.SegmentEnds db l) (sym c.as_slice.ensures.value) lists in
        examines_as Never (λ db. AreStated db → ⊥) old (state g.S.Store c.list_of.new.tx.conn.now) c.in_ok-rows.rows c.lasts_of.result _ _ c.in_ok-rows.ensures.examined.says
        (λ lists. right_lasts db rows (listed lists) c.lasts_of.result c.lasts_of.ensures.right c.lasts_of.ensures.these)
        (λ lists. wrong_lasts db rows (listed lists) c.lasts_of.result c.lasts_of.ensures.judged);
  };
}
