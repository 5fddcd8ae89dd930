use Rattle.std.proofs.Common.{◌<◌, ◌∙◌, length, get_or, arith}
use Rattle.cwr_records.specs.declared.read.TheConstants.{TYPES}
use Rattle.cwr_records.proofs.lemmas.RecordTypes.{first_of-other, told, past_end}
use Rattle.cwr_records.proofs.read.record_type.Goals as goal

pub loop-letters-preserved : goal.loop-letters-preserved
loop-letters-preserved c =
    let i = c.loop-letters.letters-index in
    let within : i < length TYPES = omega arith in
    let code = c.record_type-code.result in
    first_of-other TYPES i code within (told c.is.result code (get_or TYPES i past_end).0 c.is.ensures ∙ c.if-is.false) ∙ c.loop-letters.invariant
