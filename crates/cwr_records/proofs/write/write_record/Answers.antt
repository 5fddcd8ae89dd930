use Rattle.std.proofs.lemmas.Result.{on_ok_weaker}
use Rattle.cwr_records.proofs.lemmas.Rows.{reads_back}
use Rattle.cwr_records.proofs.write.write_record.Goals as goal

pub returns-else-is_err-clause-read_back : goal.returns-else-is_err-clause-read_back
returns-else-is_err-clause-read_back g c =
    on_ok_weaker c.append_record-written.result
    (λ widths. reads_back g.K.RecordKind.kind.places (g.K.RecordKind.kind.contents c.args.source.now) (g.K.RecordKind.kind.as_record c.args.source.now) g.K.RecordKind.kind.in_order widths (g.K.RecordKind.kind.read_back c.args.source.now))
    c.append_record-written.ensures.widths
