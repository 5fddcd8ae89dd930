use Rattle.society_core.specs.PlainMaps.{ends_kept, transmissions_of}
use Rattle.society_core.proofs.lemmas.Fronts.{front_only}
use Rattle.society_core.proofs.line.front_on.Goals as goal

pub returns : goal.returns
returns c =
    front_only (transmissions_of c.args.transmissions.now) (ends_kept c.args.ends.now) c.args.sender.now c.requires.orderly.right c.front_from.result c.front_from.ensures.reached c.front_from.ensures.gap
