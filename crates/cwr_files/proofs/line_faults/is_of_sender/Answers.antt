use Rattle.std.proofs.Common.{◌++◌, ap, ◌∙◌, bytes_eq}
use Rattle.cwr_records.specs.Records.{header_of}
use Rattle.cwr_records.specs.declared.transmission_header.TransmissionHeader.{TransmissionHeader}
use Rattle.cwr_files.proofs.lemmas.SenderKeys.{other_sender_type}
use Rattle.cwr_files.proofs.line_faults.is_of_sender.Goals as goal

pub returns-else-is : goal.returns-else-is
returns-else-is c =
    let id = (header_of c.args.line.now).sender_id in
    let type = c.field.ensures.value ∙ ap (λ (h : TransmissionHeader). h.sender_type) c.read_as-header.ensures in
    other_sender_type c.field.result id c.args.sender.now _ _ c.field.ensures.width c.sender_type.ensures.bytes c.is.ensures c.if-is.false
    ∙ ap (λ t. bytes_eq (t ++ id) c.args.sender.now) type
