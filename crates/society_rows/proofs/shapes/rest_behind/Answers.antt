use Rattle.society_rows.proofs.lemmas.readings.Alike.{behind_first}
use Rattle.society_rows.proofs.shapes.rest_behind.Goals as goal

pub returns : goal.returns
returns c = behind_first c.args.bytes.now c.args.first.now c.strip_prefix.result c.strip_prefix.ensures.cases
