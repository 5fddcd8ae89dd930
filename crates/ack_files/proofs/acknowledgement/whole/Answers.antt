use Rattle.std.proofs.Common.{◌∙◌}
use Rattle.ack_files.proofs.lemmas.Fields.{fill-whole}
use Rattle.ack_files.proofs.acknowledgement.whole.Goals as goal

pub returns : goal.returns
returns g c = c.new.ensures.value ∙ fill-whole g.row.WIDTH c.args.bytes.now c.told-bytes
