use Rattle.std.proofs.Common.{◌≡◌, ◌∙◌, ◌+◌, ◌++◌, ◌∷◌, [], ap, subst, sym, take}
use Rattle.std.proofs.lemmas.Bool.{false≢true}
use Rattle.std.proofs.lemmas.List.{take_all, take_more}
use Rattle.sqlite_value.specs.Order.{Row}
use Rattle.society_book.specs.Columns.{HasRows}
use Rattle.society_book.specs.DerivedRows.{is_named}
use Rattle.book_audit.specs.Balances.{row_by_units}
use Rattle.book_audit.proofs.lemmas.balances.BalanceRows.{AreSoFar, all_taken, are_all, next_there, parted, so_far_more}
use Rattle.book_audit.proofs.balances.rows_agree.Goals as goal

pub returns-then-not-take_row-clause-judged : goal.returns-then-not-take_row-clause-judged
returns-then-not-take_row-clause-judged c = λ has.
    let units = c.args.units in
    let rows = c.args.rows.now in
    let i = c.loop-row.row-index in
    let row = c.row-item.result in
    let parts = parted rows i row c.loop-row-test.true c.row-item.is in
    let wanted = next_there units c.loop-row.left (take i rows) row parts.0 c.loop-row.invariant (subst (HasRows is_named (row_by_units units)) parts.1 has) in
    absurd (false≢true (sym c.if-not-take_row.true ∙ c.take_row.ensures.there.1 wanted))

pub loop-row-preserved : goal.loop-row-preserved
loop-row-preserved c =
    let units = c.args.units in
    let rows = c.args.rows.now in
    let i = c.loop-row.row-index in
    let row = c.row-item.result in
    let next : take (i + 1) rows ≡ take i rows ++ row ∷ [] = take_more rows i row c.loop-row-test.true ∙ ap (λ (r : Row). take i rows ++ r ∷ []) (sym c.row-item.is) in
    let is = c.if-not-take_row.false in
    subst (AreSoFar units c.take_row.new.left) (sym next)
    (so_far_more units c.loop-row.left (take i rows) c.take_row.new.left row (c.take_row.ensures.there.0 is) (c.take_row.ensures.taken is) c.loop-row.invariant)

pub returns-then-not-is_empty-clause-judged : goal.returns-then-not-is_empty-clause-judged
returns-then-not-is_empty-clause-judged c = λ has.
    let units = c.args.units in
    let rows = c.args.rows.now in
    let left = c.loop-row.left in
    let whole = take_all c.loop-row.row-index rows c.loop-row-test.false in
    let none = all_taken units left rows (subst (AreSoFar units left) whole c.loop-row.invariant) has in
    absurd (false≢true (sym c.if-not-is_empty.true ∙ c.is_empty.ensures.1 none))

pub returns-clause-agree : goal.returns-clause-agree
returns-clause-agree c =
    let units = c.args.units in
    let rows = c.args.rows.now in
    let left = c.loop-row.left in
    let whole = take_all c.loop-row.row-index rows c.loop-row-test.false in
    are_all units left rows (subst (AreSoFar units left) whole c.loop-row.invariant) (c.is_empty.ensures.0 c.if-not-is_empty.false)
