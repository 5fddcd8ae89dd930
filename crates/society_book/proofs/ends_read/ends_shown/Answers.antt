use Rattle.std.proofs.Common.{◌≡◌, ◌∙◌, ◌+◌, ◌++◌, ◌∷◌, [], ap, arith, sym, take}
use Rattle.std.proofs.lemmas.List.{take_more}
use Rattle.sqlite_value.specs.Order.{Row}
use Rattle.society_book.specs.EndLists.{end_listed, end_shown}
use Rattle.society_book.proofs.lemmas.rows_alike.EndRows.{listed_shown}
use Rattle.society_book.proofs.ends_read.ends_shown.Goals as goal

pub loop-row-preserved : goal.loop-row-preserved
loop-row-preserved c =
    let rows = c.args.rows.now in
    let i = c.loop-row.row-index in
    let row = c.row-item.result in
    let next : take (i + 1) rows ≡ take i rows ++ row ∷ [] = take_more rows i row (omega (arith, c.loop-row-test.true)) ∙ ap (λ (r : Row). take i rows ++ r ∷ []) (sym c.row-item.is) in
    ap end_listed c.in_ok-push.ensures
    ∙ listed_shown c.loop-row.ends (take i rows) c.in_ok-end_in.field-0 row c.loop-row.invariant c.in_ok-end_in.ensures.reads.0 c.in_ok-end_in.ensures.reads.1
    ∙ ap end_shown (sym next)
