use Rattle.std.proofs.Common.{rules, ◌≡◌, true, subst, sym}
use Rattle.sender_segments.specs.Ways.{IsWithinEnd, leads_to}
use Rattle.society_core.specs.Book.{ends_among}
use Rattle.society_core.specs.PlainMaps.{ends_kept, transmissions_of}
use Rattle.society_core.proofs.lemmas.Fronts.{front_led}
use Rattle.society_core.proofs.lemmas.KeptFronts.{kept_front_fits}
use Rattle.society_core.proofs.line.Line.has.Goals as goal

pub is_up_to-requires-clause-led : goal.is_up_to-requires-clause-led
is_up_to-requires-clause-led c =
    let line = c.args.self.now in
    subst (λ f. leads_to (ends_among (ends_kept line.ends.now) line.sender) f ≡ true) (sym line.reached)
    (front_led (transmissions_of line.transmissions.now) (ends_kept line.ends.now) line.sender)

pub is_up_to-requires-clause-within : goal.is_up_to-requires-clause-within
is_up_to-requires-clause-within c =
    let line = c.args.self.now in
    subst (λ f. IsWithinEnd (ends_among (ends_kept line.ends.now) line.sender) f) (sym line.reached)
    (kept_front_fits (transmissions_of line.transmissions.now) (ends_kept line.ends.now) line.sender line.orderly)

pub returns : goal.returns
returns c = search rules
