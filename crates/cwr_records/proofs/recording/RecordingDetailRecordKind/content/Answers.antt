use Rattle.std.proofs.Common.{◌≡◌, arith}
use Rattle.cwr_records.proofs.recording.RecordingDetailRecordKind.content.Goals as goal

pub returns-in_default-clause-width : goal.returns-in_default-clause-width
returns-in_default-clause-width c =
    let last : c.args.index ≡ 9 = omega arith in
    rw last c.field-in_default.ensures.width
