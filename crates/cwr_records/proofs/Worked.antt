-- Worked values of lines, fields, the fields with a type of their own, layouts and records.
use Rattle.std.specs.Prelude.{◌≡◌, ℕ, true, false, List, [], ◌∷◌, ◌++◌, length, replicate, Some, None, refl, codes}
use Rattle.cwr_records.specs.Blanks.{trimmed}
use Rattle.cwr_records.specs.Layouts.{ended, is_layout, is_one_line, place, row}
use Rattle.cwr_records.specs.Lines.{field, fill_field, is_blank, line_of_piece, lines}
use Rattle.work_ids.specs.Digits.{decimal_value}
use Rattle.cwr_records.specs.Places.{header_places, group_header_places, work_places, publisher_places, publisher_territory_places, writer_places, writer_territory_places, publisher_for_writer_places, alternate_title_places, recording_places, acknowledgement_places, group_trailer_places, trailer_places}
use Rattle.cwr_records.specs.Records.{record_of, header_of, header_contents, group_header_of, group_header_contents, work_of, work_contents, publisher_of, publisher_contents, publisher_territory_of, publisher_territory_contents, writer_of, writer_contents, writer_territory_of, writer_territory_contents, publisher_for_writer_of, publisher_for_writer_contents, alternate_title_of, alternate_title_contents, recording_of, recording_contents, acknowledgement_of, acknowledgement_contents, group_trailer_of, group_trailer_contents, trailer_of, trailer_contents}
use Rattle.cwr_records.specs.Typed.{indicator_of, share_of, territory_of}
use Rattle.cwr_records.specs.declared.indicator.Indicator.TheVariants.{Excluded, Included}
use Rattle.cwr_records.specs.declared.publisher.PublisherRole.TheVariants.{Controlled as ControlledPublisher}
use Rattle.cwr_records.specs.declared.record.Record.TheVariants as kind
use Rattle.cwr_records.specs.declared.work.TransactionKind.TheVariants.{Nwr as Registration}
use Rattle.cwr_records.specs.declared.writer.WriterRole.TheVariants.{Controlled as ControlledWriter}

-- one carriage return at a line's end is dropped, the last line end may be missing, an empty line counts
three_lines : lines (codes "A\r\n\nB\r\r\nC") ≡ codes "A" ∷ [] ∷ codes "B\r" ∷ codes "C" ∷ []
unfolding line_of_piece
three_lines = refl

-- a CR alone behind the last line end is an empty line
lone_return : lines (codes "TRL\r\n\r") ≡ codes "TRL" ∷ [] ∷ []
unfolding line_of_piece
lone_return = refl

no_lines : lines [] ≡ []
no_lines = refl

-- a field past the end of its line is read as if the line were filled with blanks
field_past_the_end : field (codes "ABC") 2 5 ≡ codes "BC  "
unfolding field fill_field
field_past_the_end = refl

whole_number : decimal_value (codes "00012") ≡ Some 12
unfolding decimal_value
whole_number = refl

blank_number : decimal_value (codes "   ") ≡ None
unfolding decimal_value
blank_number = refl

-- shares
half : share_of (codes "05000") ≡ Some 5000
unfolding share_of is_blank decimal_value
half = refl

all_of_it : share_of (codes "10000") ≡ Some 10000
unfolding share_of is_blank decimal_value
all_of_it = refl

more_than_all : share_of (codes "10001") ≡ None
unfolding share_of is_blank decimal_value
more_than_all = refl

blank_share : share_of (codes "     ") ≡ Some 0
unfolding share_of is_blank
blank_share = refl

short_share : share_of (codes "0500 ") ≡ None
unfolding share_of is_blank decimal_value
short_share = refl

-- territories: blanks at both ends and zeros in front do not count
territory_forty : territory_of (codes " 40 ") ≡ Some 40
unfolding territory_of trimmed decimal_value
territory_forty = refl

same_territory : territory_of (codes "0040") ≡ Some 40
unfolding territory_of trimmed decimal_value
same_territory = refl

forty_in_front : territory_of (codes "40  ") ≡ Some 40
unfolding territory_of trimmed decimal_value
forty_in_front = refl

three_digits : territory_of (codes "040 ") ≡ Some 40
unfolding territory_of trimmed decimal_value
three_digits = refl

the_world : territory_of (codes "2136") ≡ Some 2136
unfolding territory_of trimmed decimal_value
the_world = refl

no_territory : territory_of (codes "    ") ≡ None
unfolding territory_of trimmed decimal_value
no_territory = refl

included : indicator_of (codes "I") ≡ Some Included
unfolding indicator_of
included = refl

excluded : indicator_of (codes "E") ≡ Some Excluded
unfolding indicator_of
excluded = refl

neither : indicator_of (codes " ") ≡ None
unfolding indicator_of
neither = refl

-- layouts: one or more places, in order, not overlapping
no_places : is_layout [] ≡ false
no_places = refl

overlapping : is_layout (place (codes "group ID") 4 8 ∷ place (codes "version") 8 16 ∷ []) ≡ false
overlapping = refl

one_line : is_one_line (codes "HDR" ∷ codes "\r" ∷ []) ≡ true
one_line = refl

two_lines : is_one_line (codes "HDR" ∷ codes "A\nB" ∷ []) ≡ false
two_lines = refl

-- so many blanks
abbrev blanks : ℕ → List ℕ
blanks n = replicate n 32

-- the lines of a small registration and of its acknowledgement: what each is read as, and what is written of it
abbrev header_line : List ℕ
header_line = codes "HDRPB000000012EXAMPLE MUSIC" ++ blanks 32 ++ codes "01.102026010510150020260106"

header_read : record_of header_line ≡ kind.TransmissionHeader (record {
  sender_type = codes "PB";
  sender_id = codes "000000012";
  sender_name = codes "EXAMPLE MUSIC" ++ blanks 32;
  edi_version = codes "01.10";
  creation_date = codes "20260105";
  creation_time = codes "101500";
  transmission_date = codes "20260106";
  character_set = blanks 15;
})
unfolding record_of field fill_field
header_read = refl

header_written : row header_places (header_contents (header_of header_line)) ≡ header_line ++ blanks 15
unfolding field fill_field
header_written = refl

abbrev group_header_line : List ℕ
group_header_line = codes "GRHNWR0000102.200000000000"

group_header_read : record_of group_header_line ≡ kind.GroupHeader (record {
  transaction_type = codes "NWR";
  group_id = codes "00001";
  version = codes "02.20";
  batch_request = codes "0000000000";
  submission_type = blanks 2;
})
unfolding record_of field fill_field
group_header_read = refl

group_header_written : row group_header_places (group_header_contents (group_header_of group_header_line)) ≡ group_header_line ++ blanks 2
unfolding field fill_field
group_header_written = refl

abbrev registration_line : List ℕ
registration_line = codes "NWR0000000000000000FIRST SONG" ++ blanks 52 ++ codes "W1" ++ blanks 12 ++ codes "T0345246801"

registration_read : record_of registration_line ≡ kind.Work (record {
  kind = Registration;
  transaction_sequence = codes "00000000";
  record_sequence = codes "00000000";
  title = codes "FIRST SONG" ++ blanks 50;
  language = blanks 2;
  work_number = codes "W1" ++ blanks 12;
  iswc = codes "T0345246801";
  copyright_date = blanks 8;
  copyright_number = blanks 12;
  distribution_category = blanks 3;
  duration = blanks 6;
  recorded_indicator = blanks 1;
  text_music_relationship = blanks 3;
  composite_type = blanks 3;
  version_type = blanks 3;
})
unfolding record_of field fill_field
registration_read = refl

registration_written : row work_places (work_contents (work_of registration_line)) ≡ registration_line ++ blanks 39
unfolding field fill_field
registration_written = refl

abbrev publisher_line : List ℕ
publisher_line = codes "SPU000000000000000101P1" ++ blanks 7 ++ codes "EXAMPLE MUSIC" ++ blanks 33 ++ codes "E" ++ blanks 10 ++ codes "00000000199" ++ blanks 17 ++ codes "05000   10000   10000"

publisher_read : record_of publisher_line ≡ kind.Publisher (record {
  role = ControlledPublisher;
  transaction_sequence = codes "00000000";
  record_sequence = codes "00000001";
  publisher_sequence = codes "01";
  party = codes "P1" ++ blanks 7;
  name = codes "EXAMPLE MUSIC" ++ blanks 32;
  unknown_indicator = blanks 1;
  publisher_type = codes "E" ++ blanks 1;
  tax_id = blanks 9;
  ipi_name = codes "00000000199";
  submitter_agreement = blanks 14;
  pr_society = blanks 3;
  pr_share = codes "05000";
  mr_society = blanks 3;
  mr_share = codes "10000";
  sr_society = blanks 3;
  sr_share = codes "10000";
})
unfolding record_of field fill_field
publisher_read = refl

publisher_written : row publisher_places (publisher_contents (publisher_of publisher_line)) ≡ publisher_line
unfolding field fill_field
publisher_written = refl

abbrev publisher_row_line : List ℕ
publisher_row_line = codes "SPT0000000000000002P1" ++ blanks 13 ++ codes "050001000010000I2136 001"

publisher_row_read : record_of publisher_row_line ≡ kind.PublisherTerritory (record {
  transaction_sequence = codes "00000000";
  record_sequence = codes "00000002";
  party = codes "P1" ++ blanks 7;
  pr_share = codes "05000";
  mr_share = codes "10000";
  sr_share = codes "10000";
  indicator = codes "I";
  territory = codes "2136";
  shares_change = blanks 1;
  sequence = codes "001";
})
unfolding record_of field fill_field
publisher_row_read = refl

publisher_row_written : row publisher_territory_places (publisher_territory_contents (publisher_territory_of publisher_row_line)) ≡ publisher_row_line
unfolding field fill_field
publisher_row_written = refl

abbrev writer_line : List ℕ
writer_line = codes "SWR0000000000000003A1" ++ blanks 7 ++ codes "WRITER" ++ blanks 39 ++ codes "ANNA" ++ blanks 27 ++ codes "CA" ++ blanks 9 ++ codes "00000000295   05000   00000   00000"

writer_read : record_of writer_line ≡ kind.Writer (record {
  role = ControlledWriter;
  transaction_sequence = codes "00000000";
  record_sequence = codes "00000003";
  party = codes "A1" ++ blanks 7;
  last_name = codes "WRITER" ++ blanks 39;
  first_name = codes "ANNA" ++ blanks 26;
  unknown_indicator = blanks 1;
  designation = codes "CA";
  tax_id = blanks 9;
  ipi_name = codes "00000000295";
  pr_society = blanks 3;
  pr_share = codes "05000";
  mr_society = blanks 3;
  mr_share = codes "00000";
  sr_society = blanks 3;
  sr_share = codes "00000";
})
unfolding record_of field fill_field
writer_read = refl

writer_written : row writer_places (writer_contents (writer_of writer_line)) ≡ writer_line
unfolding field fill_field
writer_written = refl

abbrev writer_row_line : List ℕ
writer_row_line = codes "SWT0000000000000004A1" ++ blanks 7 ++ codes "050000000000000I2136 001"

writer_row_read : record_of writer_row_line ≡ kind.WriterTerritory (record {
  transaction_sequence = codes "00000000";
  record_sequence = codes "00000004";
  party = codes "A1" ++ blanks 7;
  pr_share = codes "05000";
  mr_share = codes "00000";
  sr_share = codes "00000";
  indicator = codes "I";
  territory = codes "2136";
  shares_change = blanks 1;
  sequence = codes "001";
})
unfolding record_of field fill_field
writer_row_read = refl

writer_row_written : row writer_territory_places (writer_territory_contents (writer_territory_of writer_row_line)) ≡ writer_row_line
unfolding field fill_field
writer_row_written = refl

abbrev publisher_of_the_writer_line : List ℕ
publisher_of_the_writer_line = codes "PWR0000000000000005P1" ++ blanks 7 ++ codes "EXAMPLE MUSIC" ++ blanks 60 ++ codes "A1"

publisher_of_the_writer_read : record_of publisher_of_the_writer_line ≡ kind.PublisherForWriter (record {
  transaction_sequence = codes "00000000";
  record_sequence = codes "00000005";
  publisher_party = codes "P1" ++ blanks 7;
  publisher_name = codes "EXAMPLE MUSIC" ++ blanks 32;
  submitter_agreement = blanks 14;
  society_agreement = blanks 14;
  writer_party = codes "A1" ++ blanks 7;
})
unfolding record_of field fill_field
publisher_of_the_writer_read = refl

publisher_of_the_writer_written : row publisher_for_writer_places (publisher_for_writer_contents (publisher_for_writer_of publisher_of_the_writer_line)) ≡ publisher_of_the_writer_line ++ blanks 7
unfolding field fill_field
publisher_of_the_writer_written = refl

abbrev recording_line : List ℕ
recording_line = codes "REC0000000000000006" ++ blanks 230 ++ codes "ATABC2600001"

recording_read : record_of recording_line ≡ kind.Recording (record {
  transaction_sequence = codes "00000000";
  record_sequence = codes "00000006";
  release_date = blanks 8;
  release_duration = blanks 6;
  album_title = blanks 60;
  label = blanks 60;
  catalogue_number = blanks 18;
  ean = blanks 13;
  isrc = codes "ATABC2600001";
})
unfolding record_of field fill_field
recording_read = refl

recording_written : row recording_places (recording_contents (recording_of recording_line)) ≡ recording_line
unfolding field fill_field
recording_written = refl

abbrev group_trailer_line : List ℕ
group_trailer_line = codes "GRT000010000000100000009"

group_trailer_read : record_of group_trailer_line ≡ kind.GroupTrailer (record {
  group_id = codes "00001";
  transaction_count = codes "00000001";
  record_count = codes "00000009";
})
unfolding record_of field fill_field
group_trailer_read = refl

group_trailer_written : row group_trailer_places (group_trailer_contents (group_trailer_of group_trailer_line)) ≡ group_trailer_line
unfolding field fill_field
group_trailer_written = refl

abbrev trailer_line : List ℕ
trailer_line = codes "TRL000010000000100000011"

trailer_read : record_of trailer_line ≡ kind.TransmissionTrailer (record {
  group_count = codes "00001";
  transaction_count = codes "00000001";
  record_count = codes "00000011";
})
unfolding record_of field fill_field
trailer_read = refl

trailer_written : row trailer_places (trailer_contents (trailer_of trailer_line)) ≡ trailer_line
unfolding field fill_field
trailer_written = refl

abbrev acknowledgement_line : List ℕ
acknowledgement_line = codes "ACK0000000000000000202601051015000000100000000NWRFIRST SONG" ++ blanks 50 ++ codes "W1" ++ blanks 18 ++ codes "0000000120000000000120260106AS"

acknowledgement_read : record_of acknowledgement_line ≡ kind.Acknowledgement (record {
  transaction_sequence = codes "00000000";
  record_sequence = codes "00000000";
  creation_date = codes "20260105";
  creation_time = codes "101500";
  original_group = codes "00001";
  original_sequence = codes "00000000";
  original_type = codes "NWR";
  title = codes "FIRST SONG" ++ blanks 50;
  submitter_number = codes "W1" ++ blanks 18;
  recipient_number = codes "00000001200000000001";
  processing_date = codes "20260106";
  status = codes "AS";
})
unfolding record_of field fill_field
acknowledgement_read = refl

acknowledgement_written : row acknowledgement_places (acknowledgement_contents (acknowledgement_of acknowledgement_line)) ≡ acknowledgement_line
unfolding field fill_field
acknowledgement_written = refl

-- a line of 106 bytes is written with 145, and its line end
registration_ended : length (ended (row work_places (work_contents (work_of registration_line)))) ≡ 147
unfolding field fill_field
registration_ended = refl

-- the other type of each layout that has two, a further title, and a type that has no layout
revision_written : row work_places (work_contents (work_of (codes "REV" ++ blanks 142))) ≡ codes "REV" ++ blanks 142
unfolding field fill_field
revision_written = refl

other_publisher_written : row publisher_places (publisher_contents (publisher_of (codes "OPU" ++ blanks 133))) ≡ codes "OPU" ++ blanks 133
unfolding field fill_field
other_publisher_written = refl

other_writer_written : row writer_places (writer_contents (writer_of (codes "OWR" ++ blanks 147))) ≡ codes "OWR" ++ blanks 147
unfolding field fill_field
other_writer_written = refl

abbrev further_title_line : List ℕ
further_title_line = codes "ALT0000000000000003FIRST TUNE" ++ blanks 50 ++ codes "ATEN"

further_title_read : record_of further_title_line ≡ kind.AlternateTitle (record {
  transaction_sequence = codes "00000000";
  record_sequence = codes "00000003";
  title = codes "FIRST TUNE" ++ blanks 50;
  title_type = codes "AT";
  language = codes "EN";
})
unfolding record_of field fill_field
further_title_read = refl

further_title_written : row alternate_title_places (alternate_title_contents (alternate_title_of further_title_line)) ≡ further_title_line
unfolding field fill_field
further_title_written = refl

agreement_read : record_of (codes "AGRXXXXXXXX00000005") ≡ kind.Other (codes "AGRXXXXXXXX00000005")
unfolding record_of field fill_field
agreement_read = refl
