use Rattle.std.proofs.Common.{◌≡◌, ◌∙◌, ◌+◌, ◌++◌, ◌∷◌, [], List, ap, subst, subst₂, sym, take}
use Rattle.std.proofs.lemmas.List.{take_all, take_more}
use Rattle.sqlite_value.specs.Order.{Row}
use Rattle.society_book.specs.BookRows.{is_of_pool, pool_rows}
use Rattle.society_book.specs.Columns.{HasRows}
use Rattle.book_audit.specs.Pools.{AreClosedBy}
use Rattle.book_audit.proofs.lemmas.orders.Closings.{are_orders, closed_more}
use Rattle.society_book.proofs.lemmas.together.ErrLemmas.{blames_on}
use Rattle.book_audit.proofs.lemmas.orders.KnownRows.{closed_here}
use Rattle.book_audit.proofs.pool_orders.closed_pools.Goals as goal

pub returns-in_err-closed_by-clause-judged : goal.returns-in_err-closed_by-clause-judged
returns-in_err-closed_by-clause-judged c =
    blames_on c.from_residual-in_err-closed_by.result c.in_err-closed_by.field-0.0 _ _ c.from_residual-in_err-closed_by.ensures.1 c.in_err-closed_by.ensures.judged
    (λ wrong b sound are.
    let has = subst (HasRows (is_of_pool 0) (pool_rows b)) (sym c.as_slice-pools.ensures.value) are.pools in
    wrong c.args.rows.now b c.in_ok-parts.ensures.parts sound are (closed_here b _ has c.loop-row.row-index c.row-item.result c.loop-row-test.true c.row-item.is))

pub loop-row-preserved : goal.loop-row-preserved
loop-row-preserved c =
    let rows = c.args.rows.now in
    let pools = c.as_slice-pools.result.now in
    let i = c.loop-row.row-index in
    let row = c.row-item.result in
    let next : take (i + 1) pools ≡ take i pools ++ row ∷ [] = take_more pools i row c.loop-row-test.true ∙ ap (λ (r : Row). take i pools ++ r ∷ []) (sym c.row-item.is) in
    let more = closed_more rows (take i pools) c.loop-row.closed.items row _ c.loop-row.invariant (c.in_ok-closed_by.ensures.closed rows c.in_ok-parts.ensures.parts) in
    subst₂ (AreClosedBy rows) (sym next) (sym c.in_ok-push.ensures.items) more

pub returns-clause-orders : goal.returns-clause-orders
returns-clause-orders c =
    let rows = c.args.rows.now in
    let pools = c.as_slice-pools.result.now in
    are_orders rows _ c.loop-row.closed.items c.in_ok-parts.ensures.parts
    (subst (λ (l : List Row). AreClosedBy rows l c.loop-row.closed.items) (take_all c.loop-row.row-index pools c.loop-row-test.false ∙ c.as_slice-pools.ensures.value) c.loop-row.invariant)
