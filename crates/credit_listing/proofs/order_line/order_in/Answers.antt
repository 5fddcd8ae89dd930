use Rattle.std.proofs.Common.{sym, refl}
use Rattle.credit_listing.specs.Spelled.{order_on_line}
use Rattle.credit_listing.proofs.order_line.order_in.Goals as goal

pub returns-in_default : goal.returns-in_default
unfolding order_on_line
returns-in_default c = rw (sym c.in_ok-value.ensures, c.in_default.is) refl

pub returns-in-Some-get : goal.returns-in-Some-get
unfolding order_on_line
returns-in-Some-get c = rw (sym c.in_ok-value.ensures, c.in-Some.is, sym c.get.ensures, c.in-Some-get.is) c.order_for.ensures

pub returns : goal.returns
unfolding order_on_line
returns c = rw (sym c.in_ok-value.ensures, c.in-Some.is, sym c.get.ensures, c.in-None.is) c.order_for_all.ensures
