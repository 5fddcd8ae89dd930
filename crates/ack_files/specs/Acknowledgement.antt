-- The acknowledgement of a transmission: the office's profile of an acknowledgement file.
use Rattle.std.specs.Prelude.{ℕ, ◌+◌, Bool, not, ◌==◌, List, [], ◌∷◌, ◌++◌, Option, Some, None, codes, length, find, drop}
use Rattle.std.specs.List.{zip}
use Rattle.cwr_records.specs.Lines.{fill_field}
use Rattle.cwr_records.specs.Records.{kind_code}
use Rattle.cwr_records.specs.declared.acknowledgement.AcknowledgementRecord.{AcknowledgementRecord}
use Rattle.cwr_records.specs.declared.group_header.GroupHeader.{GroupHeader}
use Rattle.cwr_records.specs.declared.group_trailer.GroupTrailer.{GroupTrailer}
use Rattle.cwr_records.specs.declared.transmission_header.TransmissionHeader.{TransmissionHeader}
use Rattle.cwr_records.specs.declared.transmission_trailer.TransmissionTrailer.{TransmissionTrailer}
use Rattle.cwr_files.specs.Contents.{transactions_of}
use Rattle.cwr_files.specs.declared.transmission.Group.{Group}
use Rattle.cwr_files.specs.declared.transmission.Transaction.{Transaction}
use Rattle.cwr_files.specs.declared.transmission.Transmission.{Transmission}
use Rattle.cwr_files.specs.Transaction.{first_work, title_of, submitter_number}
use Rattle.share_rules.specs.declared.office.Office.{Office}
use Rattle.works_core.specs.declared.verdict.Verdict.{Verdict}
use Rattle.works_core.specs.declared.verdict.Verdict.TheVariants.{Accepted, Rejected}
use Rattle.work_ids.specs.Digits.{last_digits}
use Rattle.ack_files.specs.Lines.{header_line, group_header_line, acknowledgement_line, group_trailer_line, trailer_line}

-- the header: from the office, dated by the original's transmission date, so that it never depends on the day of arrival (profile)
abbrev pub ack_header : Office → TransmissionHeader → TransmissionHeader
ack_header office original = record {
  sender_type = codes "SO";
  sender_id = last_digits 9 office.society;
  sender_name = office.name;
  edi_version = codes "01.10";
  creation_date = original.transmission_date;
  creation_time = codes "000000";
  transmission_date = original.transmission_date;
  character_set = fill_field 15 [];
}

-- the group's header, with the version of the original's group (profile)
abbrev pub ack_group_header : GroupHeader → GroupHeader
ack_group_header original = record {
  transaction_type = codes "ACK";
  group_id = last_digits 5 1;
  version = original.version;
  batch_request = last_digits 10 0;
  submission_type = fill_field 2 [];
}

-- the office's number of a work: the sender ID and eleven digits of its ordinal; blank where the transaction is rejected (profile)
abbrev pub recipient_number : List ℕ → Verdict → List ℕ
recipient_number sender (Accepted ordinal revision) = drop 2 sender ++ last_digits 11 ordinal
recipient_number sender (Rejected fault) = fill_field 20 []

-- accepted or rejected (profile)
abbrev pub status_of : Verdict → List ℕ
status_of (Accepted ordinal revision) = codes "AS"
status_of (Rejected fault) = codes "RJ"

-- the ACK record of the k-th transaction, from 0 (profile)
abbrev pub ack_record : List ℕ → TransmissionHeader → ℕ → Transaction → Verdict → AcknowledgementRecord
ack_record sender original k transaction verdict = record {
  transaction_sequence = last_digits 8 k;
  record_sequence = last_digits 8 0;
  creation_date = original.creation_date;
  creation_time = original.creation_time;
  original_group = last_digits 5 transaction.group;
  original_sequence = last_digits 8 transaction.sequence;
  original_type = kind_code transaction.kind;
  title = fill_field 60 (title_of transaction);
  submitter_number = fill_field 20 (submitter_number (first_work transaction.records));
  recipient_number = recipient_number sender verdict;
  processing_date = original.transmission_date;
  status = status_of verdict;
}

-- the ACK lines of transactions with their verdicts, numbered on from k
abbrev pub ack_lines : List ℕ → TransmissionHeader → ℕ → List Transaction → List Verdict → List ℕ
ack_lines sender original k [] verdicts = []
ack_lines sender original k (transaction ∷ more) [] = []
ack_lines sender original k (transaction ∷ more) (verdict ∷ verdicts) =
    acknowledgement_line (ack_record sender original k transaction verdict) ++ ack_lines sender original (k + 1) more verdicts

-- whether a group lists a transaction
abbrev pub has_transactions : Group → Bool
has_transactions group = not (length group.transactions == 0)

-- the group's trailer: the transactions, and their records with those of the group's frame (CISAC CWR 2.2)
abbrev pub ack_group_trailer : ℕ → GroupTrailer
ack_group_trailer count = record { group_id = last_digits 5 1; transaction_count = last_digits 8 count; record_count = last_digits 8 (count + 2) }

-- the trailer: groups, transactions and records of the file, its frame included (CISAC CWR 2.2)
abbrev pub ack_trailer : ℕ → ℕ → ℕ → TransmissionTrailer
ack_trailer groups transactions records = record { group_count = last_digits 5 groups; transaction_count = last_digits 8 transactions; record_count = last_digits 8 records }

-- behind the header: one group where the original has a transaction, with an ACK line for each, and the trailer (profile)
abbrev pub ack_body : List ℕ → Transmission → List Verdict → Option Group → List ℕ
ack_body sender transmission verdicts None = trailer_line (ack_trailer 0 0 2)
ack_body sender transmission verdicts (Some first) =
    let count = length (zip (transactions_of transmission) verdicts) in
    group_header_line (ack_group_header first.header)
    ++ ack_lines sender transmission.header 0 (transactions_of transmission) verdicts
    ++ group_trailer_line (ack_group_trailer count)
    ++ trailer_line (ack_trailer 1 count (count + 4))

-- the acknowledgement of a sender's transmission, with one verdict for each of its transactions (profile)
unfoldable pub acknowledgement_file : Office → List ℕ → Transmission → List Verdict → List ℕ
acknowledgement_file office sender transmission verdicts =
    header_line (ack_header office transmission.header) ++ ack_body sender transmission verdicts (find has_transactions transmission.groups)
