use Rattle.std.proofs.Common.{◌≡◌, ◌∙◌, ℕ, arith, false, rules, subst, sym, take, true, ap}
use Rattle.std.proofs.lemmas.Grind.{common_steps}
use Rattle.std.specs.List.{list_any}
use Rattle.society_book.specs.BookRows.{is_of_pool}
use Rattle.society_book.specs.Columns.{whole_number_at}
use Rattle.book_audit.proofs.lemmas.orders.Parts.{marks_more, not_false, not_true, once_more, stands_twice}
use Rattle.book_audit.proofs.order_parts.marked_in.Goals as goal

pub returns-then-not-branch-clause-judged : goal.returns-then-not-branch-clause-judged
returns-then-not-branch-clause-judged c = λ known once.
    let rows = c.args.rows.now in
    let i = c.loop-row.row-index in
    let number : c.in-Ok.mark.pool ≡ whole_number_at 0 c.row-item.result = ap (whole_number_at 0) c.in-Ok.ensures.value in
    let there = not_false _ (sym c.if-not-branch.true ∙ c.in_ok-insert.ensures.added) in
    stands_twice rows i c.row-item.result c.loop-row-test.true c.row-item.is
    (subst (λ (n : ℕ). list_any (is_of_pool 0 n) (take i rows) ≡ true) number (sym (c.loop-row.invariant.kept c.in-Ok.mark.pool) ∙ there)) once

pub loop-row-preserved : goal.loop-row-preserved
loop-row-preserved c = record {
  each = marks_more c.args.pools.now c.args.rows.now c.loop-row.row-index c.row-item.result c.in-Ok.mark.pool c.loop-row-test.true c.row-item.is c.in-Ok.ensures.value (sym c.contains.ensures ∙ c.if-not-contains.false) c.loop-row.invariant.each;
  kept = first_of (search rules, grind (arith, common_steps));
  once =
      let rows = c.args.rows.now in
      let i = c.loop-row.row-index in
      let number : c.in-Ok.mark.pool ≡ whole_number_at 0 c.row-item.result = ap (whole_number_at 0) c.in-Ok.ensures.value in
      let free = not_true _ (sym c.if-not-branch.false ∙ c.in_ok-insert.ensures.added) in
      once_more rows i c.row-item.result c.loop-row-test.true c.row-item.is c.loop-row.invariant.once
      (subst (λ (n : ℕ). list_any (is_of_pool 0 n) (take i rows) ≡ false) number (sym (c.loop-row.invariant.kept c.in-Ok.mark.pool) ∙ free));
}
