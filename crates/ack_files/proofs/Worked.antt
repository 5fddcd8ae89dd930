-- Worked values: the sample files' acknowledgements, byte for byte.
use Rattle.std.specs.Prelude.{◌≡◌, [], ◌∷◌, refl, codes}
use Rattle.std.proofs.Common.{lit≤}
use Rattle.cwr_records.specs.Lines.{field, fill_field, is_blank, line_of_piece}
use Rattle.work_ids.specs.Digits.{decimal_value}
use Rattle.cwr_records.specs.Records.{record_of}
use Rattle.cwr_files.specs.Contents.{transmission_in}
use Rattle.cwr_files.specs.RecordTypes.{has_type, is_read, type_of_group}
use Rattle.share_rules.specs.declared.office.Office.{Office}
use Rattle.works_core.specs.declared.verdict.Verdict.TheVariants.{Accepted, Rejected}
use Rattle.ack_files.specs.Acknowledgement.{acknowledgement_file, recipient_number, status_of}
use Rattle.work_ids.specs.Digits.{last_digits}
use Rattle.ack_files.specs.Lines.{acknowledgement_line, group_header_line, group_trailer_line, header_line, trailer_line}
use Rattle.work_ids.specs.Blanks.{fill as filled}

abbrev office : Office
office = record { society = 900; territory = 40; name = filled 45 (codes "EXAMPLE SOCIETY"); name_length = 15; within_limits = refl; name_filled = refl; name_in_range = lit≤ tt }

-- a transmission with no group
no_group : acknowledgement_file office (codes "PB000000012") (transmission_in (codes "HDRPB000000012EXAMPLE MUSIC                                01.102026010510150020260106\r\nTRL000000000000000000002\r\n")) [] ≡ codes "HDRSO000000900EXAMPLE SOCIETY                              01.102026010600000020260106               \r\nTRL000000000000000000002\r\n"
unfolding acknowledgement_file header_line group_header_line acknowledgement_line group_trailer_line trailer_line last_digits transmission_in line_of_piece fill_field field record_of is_blank has_type type_of_group is_read decimal_value
no_group = refl

-- a registration of one work
one_work : acknowledgement_file office (codes "PB000000012") (transmission_in (codes "HDRPB000000012EXAMPLE MUSIC                                01.102026010510150020260106\r\nGRHNWR0000102.200000000000\r\nNWR0000000000000000FIRST SONG                                                    W1            T0345246801\r\nSPU000000000000000101P1       EXAMPLE MUSIC                                 E          00000000199                 05000   10000   10000\r\nSPT0000000000000002P1             050001000010000I2136 001\r\nSWR0000000000000003A1       WRITER                                       ANNA                           CA         00000000295   05000   00000   00000\r\nSWT0000000000000004A1       050000000000000I2136 001\r\nPWR0000000000000005P1       EXAMPLE MUSIC                                                            A1\r\nREC0000000000000006                                                                                                                                                                                                                                      ATABC2600001\r\nGRT000010000000100000009\r\nTRL000010000000100000011\r\n")) (Accepted 1 0 ∷ []) ≡ codes "HDRSO000000900EXAMPLE SOCIETY                              01.102026010600000020260106               \r\nGRHACK0000102.200000000000  \r\nACK0000000000000000202601051015000000100000000NWRFIRST SONG                                                  W1                  0000000120000000000120260106AS\r\nGRT000010000000100000003\r\nTRL000010000000100000005\r\n"
unfolding acknowledgement_file header_line group_header_line acknowledgement_line group_trailer_line trailer_line last_digits transmission_in line_of_piece fill_field field record_of is_blank has_type type_of_group is_read decimal_value
one_work = refl

-- the office's number of a work, and none where the transaction is rejected
numbered : recipient_number (codes "PB000000034") (Accepted 1 3) ≡ codes "00000003400000000001"
unfolding last_digits
numbered = refl

not_numbered : recipient_number (codes "PB000000012") (Rejected 5) ≡ codes "                    "
unfolding fill_field
not_numbered = refl

rejected : status_of (Rejected 5) ≡ codes "RJ"
rejected = refl
