use Rattle.std.proofs.Common.{subst}
use Rattle.sqlite.specs.Held.{state}
use Rattle.sqlite.specs.State.{HasCleanDisk}
use Rattle.society_opening.proofs.lemmas.opened.OpenTold.{opened_else, opened_older}
use Rattle.society_opening.proofs.opening.open.Goals as goal

pub returns-in-Err-clause-opens : goal.returns-in-Err-clause-opens
returns-in-Err-clause-opens g c clean is_open has holds =
    opened_else c.args.office.now _ c.in-Err.fault has holds ((rw c.in-Err.is at c.prepare.ensures.opens).err (subst (λ h. HasCleanDisk (state g.S.Store h)) c.into_connection.ensures.same clean) is_open)

pub returns-in-Err-clause-takes : goal.returns-in-Err-clause-takes
returns-in-Err-clause-takes g c clean is_open layout was held =
    opened_older c.args.office.now layout _ c.in-Err.fault was held ((rw c.in-Err.is at c.prepare.ensures.opens).err (subst (λ h. HasCleanDisk (state g.S.Store h)) c.into_connection.ensures.same clean) is_open)
