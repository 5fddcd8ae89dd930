use Rattle.std.proofs.Common.{sym, refl}
use Rattle.http_text.specs.OrderRead.{numbers_read}
use Rattle.http_text.proofs.lemmas.OrderLemmas.{spells_fault, spells_order}
use Rattle.http_text.proofs.order_text.order_with.Goals as goal

pub returns-in_default : goal.returns-in_default
returns-in_default c = rw (sym c.in_ok-numbers.ensures, c.in_default.is) refl

pub returns-in-Ok : goal.returns-in-Ok
returns-in-Ok c =
    let made = rw (c.deref.ensures.value, c.deref-2.ensures.value) at c.in-Ok.ensures in
    rw (sym c.in_ok-numbers.ensures, c.in-Some.is) (spells_order (numbers_read c.in-Some.numbers) c.in-Ok.order made.0 made.1)

pub returns-in-Err-Order : goal.returns-in-Err-Order
returns-in-Err-Order c =
    let fault = c.in-Err-Order in
    let made = rw (fault.field-0-is, c.deref.ensures.value, c.deref-2.ensures.value) at fault.ensures in
    rw (fault.fault-is, sym c.in_ok-numbers.ensures, c.in-Some.is)
    (spells_fault (numbers_read c.in-Some.numbers) fault.fault made)
