use Rattle.std.proofs.Common.{arith, ◌≡◌, ◌∙◌, ◌+◌, ap, ap₂, drop, sym, Ordering, Equal}
use Rattle.std.specs.Ordering.{ordering_then}
use Rattle.sqlite_value.specs.Order.{column, row_cmp, value_cmp}
use Rattle.book_audit.proofs.lemmas.lines.AlikeRows.{first_decides, row_cmp_at, row_cmp_past}
use Rattle.book_audit.proofs.alike.order_of.Goals as goal

pub returns-in_default : goal.returns-in_default
returns-in_default g c =
    let a = g.R.Columns.values c.args.one.now in
    let b = g.R.Columns.values c.args.other.now in
    let at = c.loop-at.at in
    let rest : Ordering = row_cmp (drop (at + 1) a) (drop (at + 1) b) in
    sym (first_decides c.compare.result rest c.in_default.not-Equal)
    ∙ ap (λ (o : Ordering). ordering_then o rest) (c.compare.ensures ∙ ap₂ value_cmp c.value.ensures c.value-in-loop-at.ensures)
    ∙ sym (row_cmp_at a b at (omega arith) (omega arith))
    ∙ c.loop-at.invariant

pub loop-at-preserved : goal.loop-at-preserved
loop-at-preserved g c =
    let a = g.R.Columns.values c.args.one.now in
    let b = g.R.Columns.values c.args.other.now in
    let at = c.loop-at.at in
    let rest : Ordering = row_cmp (drop (at + 1) a) (drop (at + 1) b) in
    let tie : value_cmp (column a at) (column b at) ≡ Equal = sym (c.compare.ensures ∙ ap₂ value_cmp c.value.ensures c.value-in-loop-at.ensures) ∙ c.in-Equal.is in
    sym (row_cmp_at a b at (omega arith) (omega arith) ∙ ap (λ (o : Ordering). ordering_then o rest) tie) ∙ c.loop-at.invariant

pub returns : goal.returns
returns g c =
    c.cmp.ensures ∙ (let e = row_cmp_past (g.R.Columns.values c.args.one.now) (g.R.Columns.values c.args.other.now) c.loop-at.at (omega arith) in grind arith)
