use Rattle.std.proofs.Common.{◌≡◌, ◌∙◌, ℕ, Bool, ap, arith, if◌then◌else◌, nat_abs, of_z, subst, sym, to_z, w64}
use Rattle.std.proofs.lemmas.Int.{to_z-of_z}
use Rattle.std.specs.Int.{FitsUnsignedBits}
use Rattle.share_rules.specs.declared.kind.Kind.TheVariants.{Mechanical, Performing}
use Rattle.society_book.specs.BookRows.{is_of_pool}
use Rattle.society_core.specs.Orders.{order_fault}
use Rattle.book_audit.proofs.lemmas.orders.Closings.{closed_as, is_whole, kind_by_mark, number_is}
use Rattle.std.proofs.lemmas.Bool.{false≢true}
use Rattle.society_rows.specs.Forms.{IsOfForms, pool_forms}
use Rattle.society_book.specs.Columns.{whole_number_at}
use Rattle.society_book.proofs.lemmas.together.ErrLemmas.{blames_on}
use Rattle.book_audit.proofs.lemmas.orders.OrdersAgain.{amount_in, amount_read, at_most, faultless_read, not_some, number_of_pool, number_taken, pool_form}
use Rattle.book_audit.proofs.pool_orders.closed_by.Goals as goal

pub returns-in_default-clause-judged : goal.returns-in_default-clause-judged
returns-in_default-clause-judged c rows b parts sound are closed =
    absurd (false≢true (c.in_default.ensures.read (subst (IsOfForms pool_forms) (sym closed.form) (pool_form b sound (whole_number_at 0 c.args.row.now) closed.order closed.there))))

pub returns-in_default-from_u32-clause-judged : goal.returns-in_default-from_u32-clause-judged
returns-in_default-from_u32-clause-judged c rows b parts sound are closed =
    let q = whole_number_at 0 c.args.row.now in
    let taken = number_taken c.in-Ok.row.pool q (ap (whole_number_at 0) c.in-Ok.ensures.value) (number_of_pool b sound q closed.order closed.there) in
    absurd (not_some q (sym c.in_default-from_u32.is ∙ c.from_u32.ensures ∙ taken))

pub returns-in_default-try_from-clause-judged : goal.returns-in_default-try_from-clause-judged
returns-in_default-try_from-clause-judged c rows b parts sound are closed =
    let q = whole_number_at 0 c.args.row.now in
    let amount = amount_read c.in-Ok.row.amount closed.order.amount (ap amount_in (c.in-Ok.ensures.value ∙ closed.form)) (sound.orders q closed.order closed.there).amount in
    let few = at_most closed.order.amount 1000000000000 (sound.orders q closed.order closed.there).amount in
    c.in_default-try_from.ensures (subst (FitsUnsignedBits 64) (sym amount) (omega arith))

pub returns-in_err-order-clause-judged : goal.returns-in_err-order-clause-judged
returns-in_err-order-clause-judged c =
    blames_on c.from_residual.result c.in_err-order.field-0.0 _ _ c.from_residual.ensures.1 c.in_err-order.ensures.judged
    (λ wrong rows b parts sound are closed.
    let q = whole_number_at 0 c.args.row.now in
    let same = ap (whole_number_at 0) c.in-Ok.ensures.value in
    let amount = amount_read c.in-Ok.row.amount closed.order.amount (ap amount_in (c.in-Ok.ensures.value ∙ closed.form)) (sound.orders q closed.order closed.there).amount in
    let units : c.in-Ok-try_from.amount ≡ closed.order.amount = c.in-Ok-try_from.ensures.1 ∙ ap nat_abs amount in
    let of_cut = c.cut_of-cut.ensures ∙ parts.cuts.kept c.in-Ok.row.pool in
    let of_paid = c.returns_of-returns.ensures ∙ parts.paid.kept c.in-Ok.row.pool in
    wrong (ap (λ (n : ℕ). order_fault n c.cut_of-cut.result.now c.returns_of-returns.result.now) units
    ∙ faultless_read b sound q closed.order closed.there rows.cuts.items rows.paid.items are.cuts are.paid c.in-Ok.row.pool _ _ same of_cut of_paid))

pub returns-clause-closed : goal.returns-clause-closed
returns-clause-closed c rows parts =
    let made = c.in_ok-order.ensures.order in
    let read : to_z w64 (of_z w64 c.in-Ok.row.amount) ≡ c.in-Ok.row.amount = to_z-of_z w64 c.in-Ok.row.amount c.in-Ok.ensures.range in
    let numbered = number_is c.in-Ok.row.pool c.in-Some.pool (sym c.from_u32.ensures ∙ c.in-Some.is) in
    closed_as rows c.args.row.now c.in-Ok.row.pool c.in-Some.pool c.in-Ok.row.amount c.in-Ok-try_from.amount c.kind_of-kind.result c.cut_of-cut.result.now c.returns_of-returns.result.now c.in_ok-order.order
    c.in-Ok.ensures.value numbered.0 numbered.1
    (is_whole c.in-Ok.row.amount c.in-Ok-try_from.amount (subst (FitsUnsignedBits 64) read c.in-Ok-try_from.ensures.0) (c.in-Ok-try_from.ensures.1 ∙ ap nat_abs read))
    made (c.cut_of-cut.ensures ∙ parts.cuts.kept c.in-Ok.row.pool) (c.returns_of-returns.ensures ∙ parts.paid.kept c.in-Ok.row.pool)
    (c.kind_of-kind.ensures ∙ ap (λ (t : Bool). if t then Mechanical else Performing) (parts.marks.kept c.in-Ok.row.pool) ∙ kind_by_mark (is_of_pool 0 c.in-Ok.row.pool) rows.marks.items)
