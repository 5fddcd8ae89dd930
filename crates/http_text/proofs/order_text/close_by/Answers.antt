use Rattle.std.proofs.Common.{◌∙◌, ap, sym, refl}
use Rattle.http_text.specs.OrderText.{close_asked, close_query}
use Rattle.http_text.proofs.order_text.close_by.Goals as goal

pub returns-in_default : goal.returns-in_default
unfolding close_query
returns-in_default c = rw (sym c.in_ok-value.ensures, c.in_default.is) refl

pub returns-in-Ok : goal.returns-in-Ok
unfolding close_query
returns-in-Ok c = rw (sym c.in_ok-value.ensures, c.in-Some.is) (ap (close_asked c.args.pool) (sym c.in-Ok.is ∙ c.in_ok-order.ensures))

pub returns : goal.returns
unfolding close_query
returns c = rw (sym c.in_ok-value.ensures, c.in-Some.is) (ap (close_asked c.args.pool) (sym c.in-Err.is ∙ c.in_ok-order.ensures))
