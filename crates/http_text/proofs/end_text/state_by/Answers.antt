use Rattle.std.proofs.Common.{sym, refl, ap}
use Rattle.http_text.specs.EndText.{state_judged, state_query}
use Rattle.http_text.proofs.end_text.state_by.Goals as goal

pub returns-in_default : goal.returns-in_default
unfolding state_query
returns-in_default c = rw (sym c.in_ok-last.ensures, c.in_default.is) refl

pub returns-in-Ok : goal.returns-in-Ok
unfolding state_query
returns-in-Ok c = rw (sym c.in_ok-last.ensures, c.in-Some.is) (ap (state_judged c.args.sender) c.in-Ok.ensures)

pub returns-in-Err : goal.returns-in-Err
unfolding state_query
returns-in-Err c = rw (sym c.in_ok-last.ensures, c.in-Some.is) (ap (state_judged c.args.sender) c.in-Err.ensures)
