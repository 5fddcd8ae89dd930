use Rattle.std.proofs.Common.{◌∙◌}
use Rattle.cwr_records.proofs.lemmas.Fields.{fill-whole}
use Rattle.cwr_records.proofs.field.Field.whole.Goals as goal

pub returns-clause-value : goal.returns-clause-value
returns-clause-value c = c.new.ensures.value ∙ fill-whole c.args.bytes.now
