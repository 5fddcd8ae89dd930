-- What each record type says: the record of a line, and the contents of a record.
use Rattle.std.specs.Prelude.{◌≡◌, ℕ, cond, List, [], ◌∷◌, ◌++◌, codes, bytes_eq}
use Rattle.cwr_records.specs.Lines.{lines}
use Rattle.cwr_records.specs.Layouts.{named, ended}
use Rattle.cwr_records.specs.Places.{record_type_in, header_places, group_header_places, work_places, publisher_places, publisher_territory_places, writer_places, writer_territory_places, publisher_for_writer_places, alternate_title_places, recording_places, acknowledgement_places, group_trailer_places, trailer_places}
use Rattle.cwr_records.specs.declared.transmission_header.TransmissionHeader.{TransmissionHeader}
use Rattle.cwr_records.specs.declared.group_header.GroupHeader.{GroupHeader}
use Rattle.cwr_records.specs.declared.work.WorkRecord.{WorkRecord}
use Rattle.cwr_records.specs.declared.publisher.PublisherRecord.{PublisherRecord}
use Rattle.cwr_records.specs.declared.publisher_territory.PublisherTerritory.{PublisherTerritory}
use Rattle.cwr_records.specs.declared.writer.WriterRecord.{WriterRecord}
use Rattle.cwr_records.specs.declared.writer_territory.WriterTerritory.{WriterTerritory}
use Rattle.cwr_records.specs.declared.publisher_for_writer.PublisherForWriter.{PublisherForWriter}
use Rattle.cwr_records.specs.declared.alternate_title.AlternateTitle.{AlternateTitle}
use Rattle.cwr_records.specs.declared.recording.RecordingDetail.{RecordingDetail}
use Rattle.cwr_records.specs.declared.acknowledgement.AcknowledgementRecord.{AcknowledgementRecord}
use Rattle.cwr_records.specs.declared.group_trailer.GroupTrailer.{GroupTrailer}
use Rattle.cwr_records.specs.declared.transmission_trailer.TransmissionTrailer.{TransmissionTrailer}
use Rattle.cwr_records.specs.declared.work.TransactionKind.{TransactionKind}
use Rattle.cwr_records.specs.declared.work.TransactionKind.TheVariants.{Nwr as NwrTransaction, Rev as RevTransaction}
use Rattle.cwr_records.specs.declared.publisher.PublisherRole.{PublisherRole}
use Rattle.cwr_records.specs.declared.publisher.PublisherRole.TheVariants.{Controlled as ControlledPublisher, Other as OtherPublisher}
use Rattle.cwr_records.specs.declared.writer.WriterRole.{WriterRole}
use Rattle.cwr_records.specs.declared.writer.WriterRole.TheVariants.{Controlled as ControlledWriter, Other as OtherWriter}
use Rattle.cwr_records.specs.declared.record.RecordType.{RecordType}
use Rattle.cwr_records.specs.declared.record.RecordType.TheVariants.{Hdr, Grh, Nwr, Rev, Spu, Opu, Spt, Swr, Owr, Swt, Pwr, Alt, Rec, Ack, Grt, Trl, Unknown}
use Rattle.cwr_records.specs.declared.record.Record.{Record}
use Rattle.cwr_records.specs.declared.record.Record.TheVariants as kind

-- the record type of a kind of transaction (CISAC CWR 2.2)
abbrev pub kind_code : TransactionKind → List ℕ
kind_code NwrTransaction = codes "NWR"
kind_code RevTransaction = codes "REV"

-- the kind of transaction that a record type says, of NWR and REV (CISAC CWR 2.2)
abbrev pub kind_of : List ℕ → TransactionKind
kind_of code = cond (bytes_eq code (codes "REV")) RevTransaction NwrTransaction

-- the record type of a publisher's role (CISAC CWR 2.2)
abbrev pub publisher_role_code : PublisherRole → List ℕ
publisher_role_code ControlledPublisher = codes "SPU"
publisher_role_code OtherPublisher = codes "OPU"

-- the publisher's role that a record type says, of SPU and OPU (CISAC CWR 2.2)
abbrev pub publisher_role_of : List ℕ → PublisherRole
publisher_role_of code = cond (bytes_eq code (codes "OPU")) OtherPublisher ControlledPublisher

-- the record type of a writer's role (CISAC CWR 2.2)
abbrev pub writer_role_code : WriterRole → List ℕ
writer_role_code ControlledWriter = codes "SWR"
writer_role_code OtherWriter = codes "OWR"

-- the writer's role that a record type says, of SWR and OWR (CISAC CWR 2.2)
abbrev pub writer_role_of : List ℕ → WriterRole
writer_role_of code = cond (bytes_eq code (codes "OWR")) OtherWriter ControlledWriter

-- the transmission header that a line is, each field from its place (CISAC CWR 2.2)
abbrev pub header_of : List ℕ → TransmissionHeader
header_of line = record {
  sender_type = named (codes "sender type") header_places line;
  sender_id = named (codes "sender ID") header_places line;
  sender_name = named (codes "sender name") header_places line;
  edi_version = named (codes "EDI version") header_places line;
  creation_date = named (codes "creation date") header_places line;
  creation_time = named (codes "creation time") header_places line;
  transmission_date = named (codes "transmission date") header_places line;
  character_set = named (codes "character set") header_places line;
}

-- what a transmission header has at its places (CISAC CWR 2.2)
abbrev pub header_contents : TransmissionHeader → List (List ℕ)
header_contents r =
    codes "HDR"
    ∷ r.sender_type
    ∷ r.sender_id
    ∷ r.sender_name
    ∷ r.edi_version
    ∷ r.creation_date
    ∷ r.creation_time
    ∷ r.transmission_date
    ∷ r.character_set
    ∷ []

-- the group header that a line is, each field from its place (CISAC CWR 2.2)
abbrev pub group_header_of : List ℕ → GroupHeader
group_header_of line = record {
  transaction_type = named (codes "transaction type") group_header_places line;
  group_id = named (codes "group ID") group_header_places line;
  version = named (codes "version") group_header_places line;
  batch_request = named (codes "batch request") group_header_places line;
  submission_type = named (codes "submission type") group_header_places line;
}

-- what a group header has at its places (CISAC CWR 2.2)
abbrev pub group_header_contents : GroupHeader → List (List ℕ)
group_header_contents r =
    codes "GRH"
    ∷ r.transaction_type
    ∷ r.group_id
    ∷ r.version
    ∷ r.batch_request
    ∷ r.submission_type
    ∷ []

-- the work that a line is, each field from its place (CISAC CWR 2.2)
abbrev pub work_of : List ℕ → WorkRecord
work_of line = record {
  kind = kind_of (named (codes "record type") work_places line);
  transaction_sequence = named (codes "transaction sequence number") work_places line;
  record_sequence = named (codes "record sequence number") work_places line;
  title = named (codes "title") work_places line;
  language = named (codes "language") work_places line;
  work_number = named (codes "submitter work number") work_places line;
  iswc = named (codes "ISWC") work_places line;
  copyright_date = named (codes "copyright date") work_places line;
  copyright_number = named (codes "copyright number") work_places line;
  distribution_category = named (codes "distribution category") work_places line;
  duration = named (codes "duration") work_places line;
  recorded_indicator = named (codes "recorded indicator") work_places line;
  text_music_relationship = named (codes "text music relationship") work_places line;
  composite_type = named (codes "composite type") work_places line;
  version_type = named (codes "version type") work_places line;
}

-- what a work has at its places (CISAC CWR 2.2)
abbrev pub work_contents : WorkRecord → List (List ℕ)
work_contents r =
    kind_code r.kind
    ∷ r.transaction_sequence
    ∷ r.record_sequence
    ∷ r.title
    ∷ r.language
    ∷ r.work_number
    ∷ r.iswc
    ∷ r.copyright_date
    ∷ r.copyright_number
    ∷ r.distribution_category
    ∷ r.duration
    ∷ r.recorded_indicator
    ∷ r.text_music_relationship
    ∷ r.composite_type
    ∷ r.version_type
    ∷ []

-- the publisher that a line is, each field from its place (CISAC CWR 2.2)
abbrev pub publisher_of : List ℕ → PublisherRecord
publisher_of line = record {
  role = publisher_role_of (named (codes "record type") publisher_places line);
  transaction_sequence = named (codes "transaction sequence number") publisher_places line;
  record_sequence = named (codes "record sequence number") publisher_places line;
  publisher_sequence = named (codes "publisher sequence") publisher_places line;
  party = named (codes "IP #") publisher_places line;
  name = named (codes "name") publisher_places line;
  unknown_indicator = named (codes "unknown indicator") publisher_places line;
  publisher_type = named (codes "publisher type") publisher_places line;
  tax_id = named (codes "tax ID") publisher_places line;
  ipi_name = named (codes "IPI name number") publisher_places line;
  submitter_agreement = named (codes "submitter agreement number") publisher_places line;
  pr_society = named (codes "PR society") publisher_places line;
  pr_share = named (codes "PR share") publisher_places line;
  mr_society = named (codes "MR society") publisher_places line;
  mr_share = named (codes "MR share") publisher_places line;
  sr_society = named (codes "SR society") publisher_places line;
  sr_share = named (codes "SR share") publisher_places line;
}

-- what a publisher has at its places (CISAC CWR 2.2)
abbrev pub publisher_contents : PublisherRecord → List (List ℕ)
publisher_contents r =
    publisher_role_code r.role
    ∷ r.transaction_sequence
    ∷ r.record_sequence
    ∷ r.publisher_sequence
    ∷ r.party
    ∷ r.name
    ∷ r.unknown_indicator
    ∷ r.publisher_type
    ∷ r.tax_id
    ∷ r.ipi_name
    ∷ r.submitter_agreement
    ∷ r.pr_society
    ∷ r.pr_share
    ∷ r.mr_society
    ∷ r.mr_share
    ∷ r.sr_society
    ∷ r.sr_share
    ∷ []

-- the publisher's territory row that a line is, each field from its place (CISAC CWR 2.2)
abbrev pub publisher_territory_of : List ℕ → PublisherTerritory
publisher_territory_of line = record {
  transaction_sequence = named (codes "transaction sequence number") publisher_territory_places line;
  record_sequence = named (codes "record sequence number") publisher_territory_places line;
  party = named (codes "IP #") publisher_territory_places line;
  pr_share = named (codes "PR share") publisher_territory_places line;
  mr_share = named (codes "MR share") publisher_territory_places line;
  sr_share = named (codes "SR share") publisher_territory_places line;
  indicator = named (codes "indicator") publisher_territory_places line;
  territory = named (codes "TIS code") publisher_territory_places line;
  shares_change = named (codes "shares change") publisher_territory_places line;
  sequence = named (codes "sequence") publisher_territory_places line;
}

-- what a publisher's territory row has at its places (CISAC CWR 2.2)
abbrev pub publisher_territory_contents : PublisherTerritory → List (List ℕ)
publisher_territory_contents r =
    codes "SPT"
    ∷ r.transaction_sequence
    ∷ r.record_sequence
    ∷ r.party
    ∷ r.pr_share
    ∷ r.mr_share
    ∷ r.sr_share
    ∷ r.indicator
    ∷ r.territory
    ∷ r.shares_change
    ∷ r.sequence
    ∷ []

-- the writer that a line is, each field from its place (CISAC CWR 2.2)
abbrev pub writer_of : List ℕ → WriterRecord
writer_of line = record {
  role = writer_role_of (named (codes "record type") writer_places line);
  transaction_sequence = named (codes "transaction sequence number") writer_places line;
  record_sequence = named (codes "record sequence number") writer_places line;
  party = named (codes "IP #") writer_places line;
  last_name = named (codes "last name") writer_places line;
  first_name = named (codes "first name") writer_places line;
  unknown_indicator = named (codes "unknown indicator") writer_places line;
  designation = named (codes "designation") writer_places line;
  tax_id = named (codes "tax ID") writer_places line;
  ipi_name = named (codes "IPI name number") writer_places line;
  pr_society = named (codes "PR society") writer_places line;
  pr_share = named (codes "PR share") writer_places line;
  mr_society = named (codes "MR society") writer_places line;
  mr_share = named (codes "MR share") writer_places line;
  sr_society = named (codes "SR society") writer_places line;
  sr_share = named (codes "SR share") writer_places line;
}

-- what a writer has at its places (CISAC CWR 2.2)
abbrev pub writer_contents : WriterRecord → List (List ℕ)
writer_contents r =
    writer_role_code r.role
    ∷ r.transaction_sequence
    ∷ r.record_sequence
    ∷ r.party
    ∷ r.last_name
    ∷ r.first_name
    ∷ r.unknown_indicator
    ∷ r.designation
    ∷ r.tax_id
    ∷ r.ipi_name
    ∷ r.pr_society
    ∷ r.pr_share
    ∷ r.mr_society
    ∷ r.mr_share
    ∷ r.sr_society
    ∷ r.sr_share
    ∷ []

-- the writer's territory row that a line is, each field from its place (CISAC CWR 2.2)
abbrev pub writer_territory_of : List ℕ → WriterTerritory
writer_territory_of line = record {
  transaction_sequence = named (codes "transaction sequence number") writer_territory_places line;
  record_sequence = named (codes "record sequence number") writer_territory_places line;
  party = named (codes "IP #") writer_territory_places line;
  pr_share = named (codes "PR share") writer_territory_places line;
  mr_share = named (codes "MR share") writer_territory_places line;
  sr_share = named (codes "SR share") writer_territory_places line;
  indicator = named (codes "indicator") writer_territory_places line;
  territory = named (codes "TIS code") writer_territory_places line;
  shares_change = named (codes "shares change") writer_territory_places line;
  sequence = named (codes "sequence") writer_territory_places line;
}

-- what a writer's territory row has at its places (CISAC CWR 2.2)
abbrev pub writer_territory_contents : WriterTerritory → List (List ℕ)
writer_territory_contents r =
    codes "SWT"
    ∷ r.transaction_sequence
    ∷ r.record_sequence
    ∷ r.party
    ∷ r.pr_share
    ∷ r.mr_share
    ∷ r.sr_share
    ∷ r.indicator
    ∷ r.territory
    ∷ r.shares_change
    ∷ r.sequence
    ∷ []

-- the publisher of a writer that a line is, each field from its place (CISAC CWR 2.2)
abbrev pub publisher_for_writer_of : List ℕ → PublisherForWriter
publisher_for_writer_of line = record {
  transaction_sequence = named (codes "transaction sequence number") publisher_for_writer_places line;
  record_sequence = named (codes "record sequence number") publisher_for_writer_places line;
  publisher_party = named (codes "publisher IP #") publisher_for_writer_places line;
  publisher_name = named (codes "publisher name") publisher_for_writer_places line;
  submitter_agreement = named (codes "submitter agreement number") publisher_for_writer_places line;
  society_agreement = named (codes "society agreement number") publisher_for_writer_places line;
  writer_party = named (codes "writer IP #") publisher_for_writer_places line;
}

-- what a publisher of a writer has at its places (CISAC CWR 2.2)
abbrev pub publisher_for_writer_contents : PublisherForWriter → List (List ℕ)
publisher_for_writer_contents r =
    codes "PWR"
    ∷ r.transaction_sequence
    ∷ r.record_sequence
    ∷ r.publisher_party
    ∷ r.publisher_name
    ∷ r.submitter_agreement
    ∷ r.society_agreement
    ∷ r.writer_party
    ∷ []

-- the alternate title that a line is, each field from its place (CISAC CWR 2.2)
abbrev pub alternate_title_of : List ℕ → AlternateTitle
alternate_title_of line = record {
  transaction_sequence = named (codes "transaction sequence number") alternate_title_places line;
  record_sequence = named (codes "record sequence number") alternate_title_places line;
  title = named (codes "title") alternate_title_places line;
  title_type = named (codes "title type") alternate_title_places line;
  language = named (codes "language") alternate_title_places line;
}

-- what an alternate title has at its places (CISAC CWR 2.2)
abbrev pub alternate_title_contents : AlternateTitle → List (List ℕ)
alternate_title_contents r =
    codes "ALT"
    ∷ r.transaction_sequence
    ∷ r.record_sequence
    ∷ r.title
    ∷ r.title_type
    ∷ r.language
    ∷ []

-- the recording that a line is, each field from its place (CISAC CWR 2.2)
abbrev pub recording_of : List ℕ → RecordingDetail
recording_of line = record {
  transaction_sequence = named (codes "transaction sequence number") recording_places line;
  record_sequence = named (codes "record sequence number") recording_places line;
  release_date = named (codes "release date") recording_places line;
  release_duration = named (codes "release duration") recording_places line;
  album_title = named (codes "album title") recording_places line;
  label = named (codes "label") recording_places line;
  catalogue_number = named (codes "catalogue number") recording_places line;
  ean = named (codes "EAN") recording_places line;
  isrc = named (codes "ISRC") recording_places line;
}

-- what a recording has at its places (CISAC CWR 2.2)
abbrev pub recording_contents : RecordingDetail → List (List ℕ)
recording_contents r =
    codes "REC"
    ∷ r.transaction_sequence
    ∷ r.record_sequence
    ∷ r.release_date
    ∷ r.release_duration
    ∷ r.album_title
    ∷ r.label
    ∷ r.catalogue_number
    ∷ r.ean
    ∷ r.isrc
    ∷ []

-- the acknowledgement that a line is, each field from its place (CISAC CWR 2.2)
abbrev pub acknowledgement_of : List ℕ → AcknowledgementRecord
acknowledgement_of line = record {
  transaction_sequence = named (codes "transaction sequence number") acknowledgement_places line;
  record_sequence = named (codes "record sequence number") acknowledgement_places line;
  creation_date = named (codes "original creation date") acknowledgement_places line;
  creation_time = named (codes "original creation time") acknowledgement_places line;
  original_group = named (codes "original group ID") acknowledgement_places line;
  original_sequence = named (codes "original transaction sequence") acknowledgement_places line;
  original_type = named (codes "original transaction type") acknowledgement_places line;
  title = named (codes "creation title") acknowledgement_places line;
  submitter_number = named (codes "submitter creation number") acknowledgement_places line;
  recipient_number = named (codes "recipient creation number") acknowledgement_places line;
  processing_date = named (codes "processing date") acknowledgement_places line;
  status = named (codes "status") acknowledgement_places line;
}

-- what an acknowledgement has at its places (CISAC CWR 2.2)
abbrev pub acknowledgement_contents : AcknowledgementRecord → List (List ℕ)
acknowledgement_contents r =
    codes "ACK"
    ∷ r.transaction_sequence
    ∷ r.record_sequence
    ∷ r.creation_date
    ∷ r.creation_time
    ∷ r.original_group
    ∷ r.original_sequence
    ∷ r.original_type
    ∷ r.title
    ∷ r.submitter_number
    ∷ r.recipient_number
    ∷ r.processing_date
    ∷ r.status
    ∷ []

-- the group trailer that a line is, each field from its place (CISAC CWR 2.2)
abbrev pub group_trailer_of : List ℕ → GroupTrailer
group_trailer_of line = record {
  group_id = named (codes "group ID") group_trailer_places line;
  transaction_count = named (codes "transaction count") group_trailer_places line;
  record_count = named (codes "record count") group_trailer_places line;
}

-- what a group trailer has at its places (CISAC CWR 2.2)
abbrev pub group_trailer_contents : GroupTrailer → List (List ℕ)
group_trailer_contents r =
    codes "GRT"
    ∷ r.group_id
    ∷ r.transaction_count
    ∷ r.record_count
    ∷ []

-- the transmission trailer that a line is, each field from its place (CISAC CWR 2.2)
abbrev pub trailer_of : List ℕ → TransmissionTrailer
trailer_of line = record {
  group_count = named (codes "group count") trailer_places line;
  transaction_count = named (codes "transaction count") trailer_places line;
  record_count = named (codes "record count") trailer_places line;
}

-- what a transmission trailer has at its places (CISAC CWR 2.2)
abbrev pub trailer_contents : TransmissionTrailer → List (List ℕ)
trailer_contents r =
    codes "TRL"
    ∷ r.group_count
    ∷ r.transaction_count
    ∷ r.record_count
    ∷ []

-- the record types that have a layout, each with its three letters (CISAC CWR 2.2)
abbrev pub lettered_types : List (List ℕ × RecordType)
lettered_types =
    (codes "HDR", Hdr)
    ∷ (codes "GRH", Grh)
    ∷ (codes "NWR", Nwr)
    ∷ (codes "REV", Rev)
    ∷ (codes "SPU", Spu)
    ∷ (codes "OPU", Opu)
    ∷ (codes "SPT", Spt)
    ∷ (codes "SWR", Swr)
    ∷ (codes "OWR", Owr)
    ∷ (codes "SWT", Swt)
    ∷ (codes "PWR", Pwr)
    ∷ (codes "ALT", Alt)
    ∷ (codes "REC", Rec)
    ∷ (codes "ACK", Ack)
    ∷ (codes "GRT", Grt)
    ∷ (codes "TRL", Trl)
    ∷ []

-- the first record type whose letters a code is, unknown where there is none (profile)
abbrev pub first_type_of : List (List ℕ × RecordType) → List ℕ → RecordType
first_type_of [] code = Unknown
first_type_of (x ∷ xs) code = cond (bytes_eq code x.0) x.1 (first_type_of xs code)

-- the record type that three bytes name (CISAC CWR 2.2)
abbrev pub type_of : List ℕ → RecordType
type_of code = first_type_of lettered_types code

-- the record of a line, of a record type (CISAC CWR 2.2)
abbrev pub record_as : RecordType → List ℕ → Record
record_as Hdr line = kind.TransmissionHeader (header_of line)
record_as Grh line = kind.GroupHeader (group_header_of line)
record_as Nwr line = kind.Work (work_of line)
record_as Rev line = kind.Work (work_of line)
record_as Spu line = kind.Publisher (publisher_of line)
record_as Opu line = kind.Publisher (publisher_of line)
record_as Spt line = kind.PublisherTerritory (publisher_territory_of line)
record_as Swr line = kind.Writer (writer_of line)
record_as Owr line = kind.Writer (writer_of line)
record_as Swt line = kind.WriterTerritory (writer_territory_of line)
record_as Pwr line = kind.PublisherForWriter (publisher_for_writer_of line)
record_as Alt line = kind.AlternateTitle (alternate_title_of line)
record_as Rec line = kind.Recording (recording_of line)
record_as Ack line = kind.Acknowledgement (acknowledgement_of line)
record_as Grt line = kind.GroupTrailer (group_trailer_of line)
record_as Trl line = kind.TransmissionTrailer (trailer_of line)
record_as Unknown line = kind.Other line

-- the record of a line, by the record type at 1-3 (CISAC CWR 2.2)
unfoldable pub record_of : List ℕ → Record
record_of line = record_as (type_of (record_type_in line)) line

-- that a line with its line end is read as a record again, whatever follows: it is one line, and the line's record is that record (profile)
pub record IsReadBack (line : List ℕ) (r : Record) : Type 0 where
  pub one_line : (rest : List ℕ) → lines (ended line ++ rest) ≡ line ∷ lines rest
  pub same : record_of line ≡ r
