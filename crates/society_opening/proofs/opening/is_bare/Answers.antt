use Rattle.std.proofs.lemmas.Bool.{false≢true}
use Rattle.sqlite.specs.Held.{state}
use Rattle.society_opening.proofs.lemmas.opened.OpenedLemmas.{found_there}
use Rattle.society_opening.proofs.opening.is_bare.Goals as goal

pub returns-in_default : goal.returns-in_default
returns-in_default g c =
    (λ is. absurd (false≢true is), λ bare. absurd (found_there (state g.S.Store c.args.conn.now).now c.layout_found.result c.layout_found.ensures.found c.in_default.not-Nothing bare))
