use Rattle.std.proofs.Common.{sym, subst}
use Rattle.society_book.specs.BookRows.{cut_rows, is_of_pool, mechanical_rows, paid_rows, pool_rows}
use Rattle.society_book.specs.Columns.{HasRows}
use Rattle.society_book.proofs.lemmas.together.ErrLemmas.{blames_on}
use Rattle.book_audit.proofs.lemmas.orders.KnownRows.{all_pools, cuts_known, marks_known, marks_once, paid_known, pools_once}
use Rattle.book_audit.proofs.order_parts.OrderParts.of_rows.Goals as goal

pub returns-in_err-pools-clause-judged : goal.returns-in_err-pools-clause-judged
returns-in_err-pools-clause-judged c =
    blames_on c.from_residual.result c.in_err-pools.field-0.0 _ _ c.from_residual.ensures.1 c.in_err-pools.ensures.judged
    (λ wrong b sound are.
    let has = subst (HasRows (is_of_pool 0) (pool_rows b)) (sym c.as_slice.ensures.value) are.pools in
    wrong (all_pools b sound _ has) (pools_once b sound _ has))

pub returns-in_err-cuts-clause-judged : goal.returns-in_err-cuts-clause-judged
returns-in_err-cuts-clause-judged c =
    blames_on c.from_residual-in_err-cuts.result c.in_err-cuts.field-0.0 _ _ c.from_residual-in_err-cuts.ensures.1 c.in_err-cuts.ensures.judged
    (λ wrong b sound are.
    let has = subst (HasRows (is_of_pool 0) (pool_rows b)) (sym c.as_slice.ensures.value) are.pools in
    wrong (cuts_known b sound _ _ has c.in_ok-pools.ensures.numbers _ (subst (HasRows (is_of_pool 0) (cut_rows b)) (sym c.as_slice-2.ensures.value) are.cuts)))

pub returns-in_err-returns-clause-judged : goal.returns-in_err-returns-clause-judged
returns-in_err-returns-clause-judged c =
    blames_on c.from_residual-in_err-returns.result c.in_err-returns.field-0.0 _ _ c.from_residual-in_err-returns.ensures.1 c.in_err-returns.ensures.judged
    (λ wrong b sound are.
    let has = subst (HasRows (is_of_pool 0) (pool_rows b)) (sym c.as_slice.ensures.value) are.pools in
    wrong (paid_known b sound _ _ has c.in_ok-pools.ensures.numbers _ (subst (HasRows (is_of_pool 2) (paid_rows b)) (sym c.as_slice-3.ensures.value) are.paid)))

pub returns-in_err-mechanical-clause-judged : goal.returns-in_err-mechanical-clause-judged
returns-in_err-mechanical-clause-judged c =
    blames_on c.from_residual-in_err-mechanical.result c.in_err-mechanical.field-0.0 _ _ c.from_residual-in_err-mechanical.ensures.1 c.in_err-mechanical.ensures.judged
    (λ wrong b sound are.
    let has = subst (HasRows (is_of_pool 0) (pool_rows b)) (sym c.as_slice.ensures.value) are.pools in
    let marks = subst (HasRows (is_of_pool 0) (mechanical_rows b)) (sym c.as_slice-4.ensures.value) are.marks in
    wrong (marks_known b sound _ _ has c.in_ok-pools.ensures.numbers _ marks) (marks_once b sound _ marks))
