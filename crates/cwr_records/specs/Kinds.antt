-- The kinds of records: for each its layout, and that what is read from a line with a record's contents is that record.
use Rattle.std.proofs.Common.{◌≡◌, ℕ, List, [], refl, ap, ◌∙◌, codes, get_or, length, IsTrue}
use Rattle.cwr_records.specs.Layouts.{Place, fields_at, is_layout, positions_of}
use Rattle.cwr_records.specs.Places.{record_type_in, header_places, group_header_places, work_places, publisher_places, publisher_territory_places, writer_places, writer_territory_places, publisher_for_writer_places, alternate_title_places, recording_places, acknowledgement_places, group_trailer_places, trailer_places}
use Rattle.cwr_records.specs.Records.{acknowledgement_contents, acknowledgement_of, alternate_title_contents, alternate_title_of, group_header_contents, group_header_of, group_trailer_contents, group_trailer_of, header_contents, header_of, kind_code, kind_of, publisher_contents, publisher_for_writer_contents, publisher_for_writer_of, publisher_of, publisher_role_code, publisher_role_of, publisher_territory_contents, publisher_territory_of, record_as, record_of, recording_contents, recording_of, trailer_contents, trailer_of, type_of, work_contents, work_of, writer_contents, writer_of, writer_role_code, writer_role_of, writer_territory_contents, writer_territory_of}
use Rattle.cwr_records.specs.declared.transmission_header.TransmissionHeader.{TransmissionHeader}
use Rattle.cwr_records.specs.declared.group_header.GroupHeader.{GroupHeader}
use Rattle.cwr_records.specs.declared.work.WorkRecord.{WorkRecord}
use Rattle.cwr_records.specs.declared.publisher.PublisherRecord.{PublisherRecord}
use Rattle.cwr_records.specs.declared.publisher_territory.PublisherTerritory.{PublisherTerritory}
use Rattle.cwr_records.specs.declared.writer.WriterRecord.{WriterRecord}
use Rattle.cwr_records.specs.declared.writer_territory.WriterTerritory.{WriterTerritory}
use Rattle.cwr_records.specs.declared.publisher_for_writer.PublisherForWriter.{PublisherForWriter}
use Rattle.cwr_records.specs.declared.alternate_title.AlternateTitle.{AlternateTitle}
use Rattle.cwr_records.specs.declared.recording.RecordingDetail.{RecordingDetail}
use Rattle.cwr_records.specs.declared.acknowledgement.AcknowledgementRecord.{AcknowledgementRecord}
use Rattle.cwr_records.specs.declared.group_trailer.GroupTrailer.{GroupTrailer}
use Rattle.cwr_records.specs.declared.transmission_trailer.TransmissionTrailer.{TransmissionTrailer}
use Rattle.cwr_records.specs.declared.work.TransactionKind.{TransactionKind}
use Rattle.cwr_records.specs.declared.work.TransactionKind.TheVariants.{Nwr as NwrTransaction, Rev as RevTransaction}
use Rattle.cwr_records.specs.declared.publisher.PublisherRole.{PublisherRole}
use Rattle.cwr_records.specs.declared.publisher.PublisherRole.TheVariants.{Controlled as ControlledPublisher, Other as OtherPublisher}
use Rattle.cwr_records.specs.declared.writer.WriterRole.{WriterRole}
use Rattle.cwr_records.specs.declared.writer.WriterRole.TheVariants.{Controlled as ControlledWriter, Other as OtherWriter}
use Rattle.cwr_records.specs.declared.record.Record.{Record}
use Rattle.cwr_records.specs.declared.record.Record.TheVariants as variant

-- a kind of record: the places of its fields, the record that a line is by them, what a record has there, and the record of any kind that it is
pub record Kind (R : Type 0) : Type 0 where
  pub places : List Place
  pub of_line : List ℕ → R
  pub contents : R → List (List ℕ)
  pub as_record : R → Record
  -- the places come one after another and do not overlap
  pub in_order : IsTrue (is_layout places)
  -- a record has as many contents as there are places
  pub counted : (r : R) → length (contents r) ≡ length places
  -- a line with a record's contents at the places is read as that record
  pub read_back : (r : R) (line : List ℕ) → fields_at (positions_of places) line ≡ contents r → record_of line ≡ as_record r

-- the content with an index, from 0
abbrev nth : List (List ℕ) → ℕ → List ℕ
nth cs i = get_or cs i []

-- a line's record, once its record type is known
pub typed : (line code : List ℕ) (r : Record) → record_type_in line ≡ code → record_as (type_of code) line ≡ r → record_of line ≡ r
unfolding record_of
typed line code r at same = ap (λ (c : List ℕ). record_as (type_of c) line) at ∙ same

-- a transmission header of these contents
abbrev header_from : List (List ℕ) → Record
header_from cs =
    variant.TransmissionHeader
    (record {
      sender_type = nth cs 1;
      sender_id = nth cs 2;
      sender_name = nth cs 3;
      edi_version = nth cs 4;
      creation_date = nth cs 5;
      creation_time = nth cs 6;
      transmission_date = nth cs 7;
      character_set = nth cs 8;
    })

-- a transmission header by its layout: a line with its contents at the places is read as it (CISAC CWR 2.2)
abbrev pub header : Kind TransmissionHeader
header = record {
  places = header_places;
  of_line = header_of;
  contents = header_contents;
  as_record = variant.TransmissionHeader;
  in_order = refl;
  counted = λ _. refl;
  read_back = λ r line h. typed line (codes "HDR") _ (ap (λ (cs : List (List ℕ)). nth cs 0) h) (ap header_from h);
}

-- a group header of these contents
abbrev group_header_from : List (List ℕ) → Record
group_header_from cs =
    variant.GroupHeader
    (record {
      transaction_type = nth cs 1;
      group_id = nth cs 2;
      version = nth cs 3;
      batch_request = nth cs 4;
      submission_type = nth cs 5;
    })

-- a group header by its layout: a line with its contents at the places is read as it (CISAC CWR 2.2)
abbrev pub group_header : Kind GroupHeader
group_header = record {
  places = group_header_places;
  of_line = group_header_of;
  contents = group_header_contents;
  as_record = variant.GroupHeader;
  in_order = refl;
  counted = λ _. refl;
  read_back = λ r line h. typed line (codes "GRH") _ (ap (λ (cs : List (List ℕ)). nth cs 0) h) (ap group_header_from h);
}

-- a work of these contents
abbrev work_from : List (List ℕ) → Record
work_from cs =
    variant.Work
    (record {
      kind = kind_of (nth cs 0);
      transaction_sequence = nth cs 1;
      record_sequence = nth cs 2;
      title = nth cs 3;
      language = nth cs 4;
      work_number = nth cs 5;
      iswc = nth cs 6;
      copyright_date = nth cs 7;
      copyright_number = nth cs 8;
      distribution_category = nth cs 9;
      duration = nth cs 10;
      recorded_indicator = nth cs 11;
      text_music_relationship = nth cs 12;
      composite_type = nth cs 13;
      version_type = nth cs 14;
    })

-- a kind of transaction is what its record type says
pub kind_of-code : (k : TransactionKind) → kind_of (kind_code k) ≡ k
kind_of-code NwrTransaction = refl
kind_of-code RevTransaction = refl

-- a line of either record type of a work is read as one
pub work_typed : (k : TransactionKind) (line : List ℕ) → record_as (type_of (kind_code k)) line ≡ variant.Work (work_of line)
work_typed NwrTransaction line = refl
work_typed RevTransaction line = refl

-- a work by its layout: a line with its contents at the places is read as it (CISAC CWR 2.2)
abbrev pub work : Kind WorkRecord
work = record {
  places = work_places;
  of_line = work_of;
  contents = work_contents;
  as_record = variant.Work;
  in_order = refl;
  counted = λ _. refl;
  read_back = λ r line h. typed line (kind_code r.kind) _ (ap (λ (cs : List (List ℕ)). nth cs 0) h) (work_typed r.kind line ∙ ap work_from h ∙ ap (λ (k : TransactionKind). variant.Work (record r { kind = k })) (kind_of-code r.kind));
}

-- a publisher of these contents
abbrev publisher_from : List (List ℕ) → Record
publisher_from cs =
    variant.Publisher
    (record {
      role = publisher_role_of (nth cs 0);
      transaction_sequence = nth cs 1;
      record_sequence = nth cs 2;
      publisher_sequence = nth cs 3;
      party = nth cs 4;
      name = nth cs 5;
      unknown_indicator = nth cs 6;
      publisher_type = nth cs 7;
      tax_id = nth cs 8;
      ipi_name = nth cs 9;
      submitter_agreement = nth cs 10;
      pr_society = nth cs 11;
      pr_share = nth cs 12;
      mr_society = nth cs 13;
      mr_share = nth cs 14;
      sr_society = nth cs 15;
      sr_share = nth cs 16;
    })

-- a publisher's role is what its record type says
pub publisher_role_of-code : (k : PublisherRole) → publisher_role_of (publisher_role_code k) ≡ k
publisher_role_of-code ControlledPublisher = refl
publisher_role_of-code OtherPublisher = refl

-- a line of either record type of a publisher is read as one
pub publisher_typed : (k : PublisherRole) (line : List ℕ) → record_as (type_of (publisher_role_code k)) line ≡ variant.Publisher (publisher_of line)
publisher_typed ControlledPublisher line = refl
publisher_typed OtherPublisher line = refl

-- a publisher by its layout: a line with its contents at the places is read as it (CISAC CWR 2.2)
abbrev pub publisher : Kind PublisherRecord
publisher = record {
  places = publisher_places;
  of_line = publisher_of;
  contents = publisher_contents;
  as_record = variant.Publisher;
  in_order = refl;
  counted = λ _. refl;
  read_back = λ r line h. typed line (publisher_role_code r.role) _ (ap (λ (cs : List (List ℕ)). nth cs 0) h) (publisher_typed r.role line ∙ ap publisher_from h ∙ ap (λ (k : PublisherRole). variant.Publisher (record r { role = k })) (publisher_role_of-code r.role));
}

-- a publisher's territory row of these contents
abbrev publisher_territory_from : List (List ℕ) → Record
publisher_territory_from cs =
    variant.PublisherTerritory
    (record {
      transaction_sequence = nth cs 1;
      record_sequence = nth cs 2;
      party = nth cs 3;
      pr_share = nth cs 4;
      mr_share = nth cs 5;
      sr_share = nth cs 6;
      indicator = nth cs 7;
      territory = nth cs 8;
      shares_change = nth cs 9;
      sequence = nth cs 10;
    })

-- a publisher's territory row by its layout: a line with its contents at the places is read as it (CISAC CWR 2.2)
abbrev pub publisher_territory : Kind PublisherTerritory
publisher_territory = record {
  places = publisher_territory_places;
  of_line = publisher_territory_of;
  contents = publisher_territory_contents;
  as_record = variant.PublisherTerritory;
  in_order = refl;
  counted = λ _. refl;
  read_back = λ r line h. typed line (codes "SPT") _ (ap (λ (cs : List (List ℕ)). nth cs 0) h) (ap publisher_territory_from h);
}

-- a writer of these contents
abbrev writer_from : List (List ℕ) → Record
writer_from cs =
    variant.Writer
    (record {
      role = writer_role_of (nth cs 0);
      transaction_sequence = nth cs 1;
      record_sequence = nth cs 2;
      party = nth cs 3;
      last_name = nth cs 4;
      first_name = nth cs 5;
      unknown_indicator = nth cs 6;
      designation = nth cs 7;
      tax_id = nth cs 8;
      ipi_name = nth cs 9;
      pr_society = nth cs 10;
      pr_share = nth cs 11;
      mr_society = nth cs 12;
      mr_share = nth cs 13;
      sr_society = nth cs 14;
      sr_share = nth cs 15;
    })

-- a writer's role is what its record type says
pub writer_role_of-code : (k : WriterRole) → writer_role_of (writer_role_code k) ≡ k
writer_role_of-code ControlledWriter = refl
writer_role_of-code OtherWriter = refl

-- a line of either record type of a writer is read as one
pub writer_typed : (k : WriterRole) (line : List ℕ) → record_as (type_of (writer_role_code k)) line ≡ variant.Writer (writer_of line)
writer_typed ControlledWriter line = refl
writer_typed OtherWriter line = refl

-- a writer by its layout: a line with its contents at the places is read as it (CISAC CWR 2.2)
abbrev pub writer : Kind WriterRecord
writer = record {
  places = writer_places;
  of_line = writer_of;
  contents = writer_contents;
  as_record = variant.Writer;
  in_order = refl;
  counted = λ _. refl;
  read_back = λ r line h. typed line (writer_role_code r.role) _ (ap (λ (cs : List (List ℕ)). nth cs 0) h) (writer_typed r.role line ∙ ap writer_from h ∙ ap (λ (k : WriterRole). variant.Writer (record r { role = k })) (writer_role_of-code r.role));
}

-- a writer's territory row of these contents
abbrev writer_territory_from : List (List ℕ) → Record
writer_territory_from cs =
    variant.WriterTerritory
    (record {
      transaction_sequence = nth cs 1;
      record_sequence = nth cs 2;
      party = nth cs 3;
      pr_share = nth cs 4;
      mr_share = nth cs 5;
      sr_share = nth cs 6;
      indicator = nth cs 7;
      territory = nth cs 8;
      shares_change = nth cs 9;
      sequence = nth cs 10;
    })

-- a writer's territory row by its layout: a line with its contents at the places is read as it (CISAC CWR 2.2)
abbrev pub writer_territory : Kind WriterTerritory
writer_territory = record {
  places = writer_territory_places;
  of_line = writer_territory_of;
  contents = writer_territory_contents;
  as_record = variant.WriterTerritory;
  in_order = refl;
  counted = λ _. refl;
  read_back = λ r line h. typed line (codes "SWT") _ (ap (λ (cs : List (List ℕ)). nth cs 0) h) (ap writer_territory_from h);
}

-- a publisher of a writer of these contents
abbrev publisher_for_writer_from : List (List ℕ) → Record
publisher_for_writer_from cs =
    variant.PublisherForWriter
    (record {
      transaction_sequence = nth cs 1;
      record_sequence = nth cs 2;
      publisher_party = nth cs 3;
      publisher_name = nth cs 4;
      submitter_agreement = nth cs 5;
      society_agreement = nth cs 6;
      writer_party = nth cs 7;
    })

-- a publisher of a writer by its layout: a line with its contents at the places is read as it (CISAC CWR 2.2)
abbrev pub publisher_for_writer : Kind PublisherForWriter
publisher_for_writer = record {
  places = publisher_for_writer_places;
  of_line = publisher_for_writer_of;
  contents = publisher_for_writer_contents;
  as_record = variant.PublisherForWriter;
  in_order = refl;
  counted = λ _. refl;
  read_back = λ r line h. typed line (codes "PWR") _ (ap (λ (cs : List (List ℕ)). nth cs 0) h) (ap publisher_for_writer_from h);
}

-- an alternate title of these contents
abbrev alternate_title_from : List (List ℕ) → Record
alternate_title_from cs =
    variant.AlternateTitle
    (record {
      transaction_sequence = nth cs 1;
      record_sequence = nth cs 2;
      title = nth cs 3;
      title_type = nth cs 4;
      language = nth cs 5;
    })

-- an alternate title by its layout: a line with its contents at the places is read as it (CISAC CWR 2.2)
abbrev pub alternate_title : Kind AlternateTitle
alternate_title = record {
  places = alternate_title_places;
  of_line = alternate_title_of;
  contents = alternate_title_contents;
  as_record = variant.AlternateTitle;
  in_order = refl;
  counted = λ _. refl;
  read_back = λ r line h. typed line (codes "ALT") _ (ap (λ (cs : List (List ℕ)). nth cs 0) h) (ap alternate_title_from h);
}

-- a recording of these contents
abbrev recording_from : List (List ℕ) → Record
recording_from cs =
    variant.Recording
    (record {
      transaction_sequence = nth cs 1;
      record_sequence = nth cs 2;
      release_date = nth cs 3;
      release_duration = nth cs 4;
      album_title = nth cs 5;
      label = nth cs 6;
      catalogue_number = nth cs 7;
      ean = nth cs 8;
      isrc = nth cs 9;
    })

-- a recording by its layout: a line with its contents at the places is read as it (CISAC CWR 2.2)
abbrev pub recording : Kind RecordingDetail
recording = record {
  places = recording_places;
  of_line = recording_of;
  contents = recording_contents;
  as_record = variant.Recording;
  in_order = refl;
  counted = λ _. refl;
  read_back = λ r line h. typed line (codes "REC") _ (ap (λ (cs : List (List ℕ)). nth cs 0) h) (ap recording_from h);
}

-- an acknowledgement of these contents
abbrev acknowledgement_from : List (List ℕ) → Record
acknowledgement_from cs =
    variant.Acknowledgement
    (record {
      transaction_sequence = nth cs 1;
      record_sequence = nth cs 2;
      creation_date = nth cs 3;
      creation_time = nth cs 4;
      original_group = nth cs 5;
      original_sequence = nth cs 6;
      original_type = nth cs 7;
      title = nth cs 8;
      submitter_number = nth cs 9;
      recipient_number = nth cs 10;
      processing_date = nth cs 11;
      status = nth cs 12;
    })

-- an acknowledgement by its layout: a line with its contents at the places is read as it (CISAC CWR 2.2)
abbrev pub acknowledgement : Kind AcknowledgementRecord
acknowledgement = record {
  places = acknowledgement_places;
  of_line = acknowledgement_of;
  contents = acknowledgement_contents;
  as_record = variant.Acknowledgement;
  in_order = refl;
  counted = λ _. refl;
  read_back = λ r line h. typed line (codes "ACK") _ (ap (λ (cs : List (List ℕ)). nth cs 0) h) (ap acknowledgement_from h);
}

-- a group trailer of these contents
abbrev group_trailer_from : List (List ℕ) → Record
group_trailer_from cs =
    variant.GroupTrailer
    (record {
      group_id = nth cs 1;
      transaction_count = nth cs 2;
      record_count = nth cs 3;
    })

-- a group trailer by its layout: a line with its contents at the places is read as it (CISAC CWR 2.2)
abbrev pub group_trailer : Kind GroupTrailer
group_trailer = record {
  places = group_trailer_places;
  of_line = group_trailer_of;
  contents = group_trailer_contents;
  as_record = variant.GroupTrailer;
  in_order = refl;
  counted = λ _. refl;
  read_back = λ r line h. typed line (codes "GRT") _ (ap (λ (cs : List (List ℕ)). nth cs 0) h) (ap group_trailer_from h);
}

-- a transmission trailer of these contents
abbrev trailer_from : List (List ℕ) → Record
trailer_from cs =
    variant.TransmissionTrailer
    (record {
      group_count = nth cs 1;
      transaction_count = nth cs 2;
      record_count = nth cs 3;
    })

-- a transmission trailer by its layout: a line with its contents at the places is read as it (CISAC CWR 2.2)
abbrev pub trailer : Kind TransmissionTrailer
trailer = record {
  places = trailer_places;
  of_line = trailer_of;
  contents = trailer_contents;
  as_record = variant.TransmissionTrailer;
  in_order = refl;
  counted = λ _. refl;
  read_back = λ r line h. typed line (codes "TRL") _ (ap (λ (cs : List (List ℕ)). nth cs 0) h) (ap trailer_from h);
}
