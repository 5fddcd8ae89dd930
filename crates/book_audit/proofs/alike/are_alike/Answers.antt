use Rattle.std.proofs.Common.{◌∙◌, IsSorted, ap, map, map-id, subst, sym}
use Rattle.sqlite_value.specs.Order.{row_cmp}
use Rattle.book_audit.proofs.lemmas.lines.AlikeRows.{alike_by, same_by}
use Rattle.book_audit.proofs.alike.are_alike.Goals as goal

pub returns-clause-alike : goal.returns-clause-alike
returns-clause-alike g c = λ yes.
    alike_by g.R.Columns.values c.args.rows.now.items c.sort_all.new.list.items c.args.wanted.now.items c.sort_all-2.new.list.items c.in_ok-sort_all.ensures.permutation c.in_ok-sort_all-2.ensures.permutation
    (sym c.as_slice.ensures.value ∙ c.are_rows.ensures.0 yes ∙ ap (map g.R.Columns.values) c.as_slice-2.ensures.value)

pub returns-clause-exact : goal.returns-clause-exact
returns-clause-exact g c = λ exact alike.
    c.are_rows.ensures.1
    (c.as_slice.ensures.value
    ∙ same_by g.R.Columns.values c.args.rows.now.items c.sort_all.new.list.items c.args.wanted.now.items c.sort_all-2.new.list.items c.in_ok-sort_all.ensures.permutation c.in_ok-sort_all-2.ensures.permutation exact (subst (IsSorted row_cmp) (map-id c.sort_all.new.list.items) c.in_ok-sort_all.ensures.sorted) c.in_ok-sort_all-2.ensures.sorted alike
    ∙ ap (map g.R.Columns.values) (sym c.as_slice-2.ensures.value))
