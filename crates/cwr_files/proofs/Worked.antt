-- Worked values: the faults of the sample files and of changed ones.
use Rattle.std.specs.Prelude.{◌≡◌, ℕ, true, false, List, [], ◌∷◌, length, map, Option, Some, None, refl, codes}
use Rattle.cwr_records.specs.Lines.{field, fill_field, is_blank, line_of_piece, lines}
use Rattle.work_ids.specs.Digits.{decimal_value}
use Rattle.cwr_records.specs.Records.{record_of}
use Rattle.cwr_files.specs.Contents.{transmission_in}
use Rattle.cwr_files.specs.Dates.{is_real_date, is_real_time, is_date, is_time}
use Rattle.cwr_files.specs.File.{File}
use Rattle.cwr_files.specs.FileFault.{file_fault, fault_at}
use Rattle.cwr_files.specs.LineFaults.{is_too_large}
use Rattle.cwr_files.specs.LinesBefore.{since, is_ended, is_open, open_type, groups_before, transactions_in_group, lines_in_group, next_number, begins_transaction}
use Rattle.cwr_files.specs.RecordTypes.{has_type, is_frame, is_code, type_of_group, is_read}
use Rattle.cwr_files.specs.RightLines.{bears, is_numbered, has_group_counts, has_file_counts, is_dated, is_header, is_opening, is_closing, is_trailer, is_record}
use Rattle.cwr_files.specs.declared.fault.FileFault.{FileFault}
use Rattle.cwr_files.specs.declared.transmission.Transmission.{Transmission}

abbrev told : ℕ → ℕ → Option FileFault
told number line = Some (record { number = number; line = line })

-- a registration
registration : file_fault (codes "PB000000012") (codes "HDRPB000000012EXAMPLE MUSIC                                01.102026010510150020260106\r\nGRHNWR0000102.200000000000\r\nNWR0000000000000000FIRST SONG                                                    W1            T0345246801\r\nSPU000000000000000101P1       EXAMPLE MUSIC                                 E          00000000199                 05000   10000   10000\r\nSPT0000000000000002P1             050001000010000I2136 001\r\nSWR0000000000000003A1       WRITER                                       ANNA                           CA         00000000295   05000   00000   00000\r\nSWT0000000000000004A1       050000000000000I2136 001\r\nPWR0000000000000005P1       EXAMPLE MUSIC                                                            A1\r\nREC0000000000000006                                                                                                                                                                                                                                      ATABC2600001\r\nGRT000010000000100000009\r\nTRL000010000000100000011\r\n") ≡ None
unfolding file_fault since is_ended is_open open_type groups_before transactions_in_group lines_in_group next_number begins_transaction fault_at is_too_large has_type is_frame is_code type_of_group is_read bears is_numbered has_group_counts has_file_counts is_dated is_header is_opening is_closing is_trailer is_record is_real_date is_real_time is_date is_time line_of_piece field fill_field decimal_value is_blank
registration = refl

-- no group
no_group : file_fault (codes "PB000000012") (codes "HDRPB000000012EXAMPLE MUSIC                                01.102026010510150020260106\r\nTRL000000000000000000002\r\n") ≡ None
unfolding file_fault since is_ended is_open open_type groups_before transactions_in_group lines_in_group next_number begins_transaction fault_at is_too_large has_type is_frame is_code type_of_group is_read bears is_numbered has_group_counts has_file_counts is_dated is_header is_opening is_closing is_trailer is_record is_real_date is_real_time is_date is_time line_of_piece field fill_field decimal_value is_blank
no_group = refl

-- a record count that leaves out the group trailer
short_count : file_fault (codes "PB000000012") (codes "HDRPB000000012EXAMPLE MUSIC                                01.102026010510150020260106\r\nGRHNWR0000102.200000000000\r\nNWR0000000000000000FIRST SONG                                                    W1            T0345246801\r\nSPU000000000000000101P1       EXAMPLE MUSIC                                 E          00000000199                 05000   10000   10000\r\nSPT0000000000000002P1             050001000010000I2136 001\r\nSWR0000000000000003A1       WRITER                                       ANNA                           CA         00000000295   05000   00000   00000\r\nSWT0000000000000004A1       050000000000000I2136 001\r\nPWR0000000000000005P1       EXAMPLE MUSIC                                                            A1\r\nREC0000000000000006                                                                                                                                                                                                                                      ATABC2600001\r\nGRT000010000000100000008\r\nTRL000010000000100000011\r\n") ≡ told 8 10
unfolding file_fault since is_ended is_open open_type groups_before transactions_in_group lines_in_group next_number begins_transaction fault_at is_too_large has_type is_frame is_code type_of_group is_read bears is_numbered has_group_counts has_file_counts is_dated is_header is_opening is_closing is_trailer is_record is_real_date is_real_time is_date is_time line_of_piece field fill_field decimal_value is_blank
short_count = refl

-- a group that is not read, and a registration
two_groups : file_fault (codes "PB000000012") (codes "HDRPB000000012EXAMPLE MUSIC                                01.102026010510150020260106\r\nGRHAGR0000102.200000000000\r\nAGRXXXXXXXX00000005\r\nGRT000010000000100000003\r\nGRHNWR0000202.200000000000\r\nNWR0000000000000000FIRST SONG                                                    W1            T0345246801\r\nSPU000000000000000101P1       EXAMPLE MUSIC                                 E          00000000199                 05000   10000   10000\r\nSPT0000000000000002P1             050001000010000I2136 001\r\nSWR0000000000000003A1       WRITER                                       ANNA                           CA         00000000295   05000   00000   00000\r\nSWT0000000000000004A1       050000000000000I2136 001\r\nPWR0000000000000005P1       EXAMPLE MUSIC                                                            A1\r\nREC0000000000000006                                                                                                                                                                                                                                      ATABC2600001\r\nGRT000020000000100000009\r\nTRL000020000000200000014\r\n") ≡ None
unfolding file_fault since is_ended is_open open_type groups_before transactions_in_group lines_in_group next_number begins_transaction fault_at is_too_large has_type is_frame is_code type_of_group is_read bears is_numbered has_group_counts has_file_counts is_dated is_header is_opening is_closing is_trailer is_record is_real_date is_real_time is_date is_time line_of_piece field fill_field decimal_value is_blank
two_groups = refl

-- a file without its trailer
no_trailer : file_fault (codes "PB000000012") (codes "HDRPB000000012EXAMPLE MUSIC                                01.102026010510150020260106\r\nGRHNWR0000102.200000000000\r\nNWR0000000000000000FIRST SONG                                                    W1            T0345246801\r\nSPU000000000000000101P1       EXAMPLE MUSIC                                 E          00000000199                 05000   10000   10000\r\nSPT0000000000000002P1             050001000010000I2136 001\r\nSWR0000000000000003A1       WRITER                                       ANNA                           CA         00000000295   05000   00000   00000\r\nSWT0000000000000004A1       050000000000000I2136 001\r\nPWR0000000000000005P1       EXAMPLE MUSIC                                                            A1\r\nREC0000000000000006                                                                                                                                                                                                                                      ATABC2600001\r\nGRT000010000000100000009\r\n") ≡ told 10 11
unfolding file_fault since is_ended is_open open_type groups_before transactions_in_group lines_in_group next_number begins_transaction fault_at is_too_large has_type is_frame is_code type_of_group is_read bears is_numbered has_group_counts has_file_counts is_dated is_header is_opening is_closing is_trailer is_record is_real_date is_real_time is_date is_time line_of_piece field fill_field decimal_value is_blank
no_trailer = refl

-- a trailer without its last two digits
cut_trailer : file_fault (codes "PB000000012") (codes "HDRPB000000012EXAMPLE MUSIC                                01.102026010510150020260106\r\nGRHNWR0000102.200000000000\r\nNWR0000000000000000FIRST SONG                                                    W1            T0345246801\r\nSPU000000000000000101P1       EXAMPLE MUSIC                                 E          00000000199                 05000   10000   10000\r\nSPT0000000000000002P1             050001000010000I2136 001\r\nSWR0000000000000003A1       WRITER                                       ANNA                           CA         00000000295   05000   00000   00000\r\nSWT0000000000000004A1       050000000000000I2136 001\r\nPWR0000000000000005P1       EXAMPLE MUSIC                                                            A1\r\nREC0000000000000006                                                                                                                                                                                                                                      ATABC2600001\r\nGRT000010000000100000009\r\nTRL0000100000001000000") ≡ told 9 11
unfolding file_fault since is_ended is_open open_type groups_before transactions_in_group lines_in_group next_number begins_transaction fault_at is_too_large has_type is_frame is_code type_of_group is_read bears is_numbered has_group_counts has_file_counts is_dated is_header is_opening is_closing is_trailer is_record is_real_date is_real_time is_date is_time line_of_piece field fill_field decimal_value is_blank
cut_trailer = refl

-- a header without its dates
cut_header : file_fault (codes "PB000000012") (codes "HDRPB000000012EXAMPLE MUSIC             ") ≡ told 3 1
unfolding file_fault since is_ended is_open open_type groups_before transactions_in_group lines_in_group next_number begins_transaction fault_at is_too_large has_type is_frame is_code type_of_group is_read bears is_numbered has_group_counts has_file_counts is_dated is_header is_opening is_closing is_trailer is_record is_real_date is_real_time is_date is_time line_of_piece field fill_field decimal_value is_blank
cut_header = refl

-- an empty body
empty : file_fault (codes "PB000000012") (codes "") ≡ told 1 1
unfolding file_fault since is_ended is_open open_type groups_before transactions_in_group lines_in_group next_number begins_transaction fault_at is_too_large has_type is_frame is_code type_of_group is_read bears is_numbered has_group_counts has_file_counts is_dated is_header is_opening is_closing is_trailer is_record is_real_date is_real_time is_date is_time line_of_piece field fill_field decimal_value is_blank
empty = refl

-- a line behind the trailer
one_more_line : file_fault (codes "PB000000012") (codes "HDRPB000000012EXAMPLE MUSIC                                01.102026010510150020260106\r\nGRHNWR0000102.200000000000\r\nNWR0000000000000000FIRST SONG                                                    W1            T0345246801\r\nSPU000000000000000101P1       EXAMPLE MUSIC                                 E          00000000199                 05000   10000   10000\r\nSPT0000000000000002P1             050001000010000I2136 001\r\nSWR0000000000000003A1       WRITER                                       ANNA                           CA         00000000295   05000   00000   00000\r\nSWT0000000000000004A1       050000000000000I2136 001\r\nPWR0000000000000005P1       EXAMPLE MUSIC                                                            A1\r\nREC0000000000000006                                                                                                                                                                                                                                      ATABC2600001\r\nGRT000010000000100000009\r\nTRL000010000000100000011\r\nX") ≡ told 11 12
unfolding file_fault since is_ended is_open open_type groups_before transactions_in_group lines_in_group next_number begins_transaction fault_at is_too_large has_type is_frame is_code type_of_group is_read bears is_numbered has_group_counts has_file_counts is_dated is_header is_opening is_closing is_trailer is_record is_real_date is_real_time is_date is_time line_of_piece field fill_field decimal_value is_blank
one_more_line = refl

-- a day that is none
no_such_date : file_fault (codes "PB000000012") (codes "HDRPB000000012EXAMPLE MUSIC                                01.102026010510150020260230\r\nGRHNWR0000102.200000000000\r\nNWR0000000000000000FIRST SONG                                                    W1            T0345246801\r\nSPU000000000000000101P1       EXAMPLE MUSIC                                 E          00000000199                 05000   10000   10000\r\nSPT0000000000000002P1             050001000010000I2136 001\r\nSWR0000000000000003A1       WRITER                                       ANNA                           CA         00000000295   05000   00000   00000\r\nSWT0000000000000004A1       050000000000000I2136 001\r\nPWR0000000000000005P1       EXAMPLE MUSIC                                                            A1\r\nREC0000000000000006                                                                                                                                                                                                                                      ATABC2600001\r\nGRT000010000000100000009\r\nTRL000010000000100000011\r\n") ≡ told 3 1
unfolding file_fault since is_ended is_open open_type groups_before transactions_in_group lines_in_group next_number begins_transaction fault_at is_too_large has_type is_frame is_code type_of_group is_read bears is_numbered has_group_counts has_file_counts is_dated is_header is_opening is_closing is_trailer is_record is_real_date is_real_time is_date is_time line_of_piece field fill_field decimal_value is_blank
no_such_date = refl

-- a line over its limit
long_line : file_fault (codes "PB000000012") (codes "HDRPB000000012EXAMPLE MUSIC                                01.102026010510150020260106                                                                                                                                                                                                                                                                                                                                                                                                                                                                                                                                                                                                                                                                                                                                                                                                                                                                                                                                                                                                                                                                                                                                                                                                                                                                                                                                                                                                                                                                                                                                                                                                                                                                                                                                                                                                                                                                                                                                                                                           \r\nGRHNWR0000102.200000000000\r\nNWR0000000000000000FIRST SONG                                                    W1            T0345246801\r\nSPU000000000000000101P1       EXAMPLE MUSIC                                 E          00000000199                 05000   10000   10000\r\nSPT0000000000000002P1             050001000010000I2136 001\r\nSWR0000000000000003A1       WRITER                                       ANNA                           CA         00000000295   05000   00000   00000\r\nSWT0000000000000004A1       050000000000000I2136 001\r\nPWR0000000000000005P1       EXAMPLE MUSIC                                                            A1\r\nREC0000000000000006                                                                                                                                                                                                                                      ATABC2600001\r\nGRT000010000000100000009\r\nTRL000010000000100000011\r\n") ≡ told 12 1
unfolding file_fault since is_ended is_open open_type groups_before transactions_in_group lines_in_group next_number begins_transaction fault_at is_too_large has_type is_frame is_code type_of_group is_read bears is_numbered has_group_counts has_file_counts is_dated is_header is_opening is_closing is_trailer is_record is_real_date is_real_time is_date is_time line_of_piece field fill_field decimal_value is_blank
long_line = refl

-- a line between groups
no_group_header : file_fault (codes "PB000000012") (codes "HDRPB000000012EXAMPLE MUSIC                                01.102026010510150020260106\r\nXXX\r\nNWR0000000000000000FIRST SONG                                                    W1            T0345246801\r\nSPU000000000000000101P1       EXAMPLE MUSIC                                 E          00000000199                 05000   10000   10000\r\nSPT0000000000000002P1             050001000010000I2136 001\r\nSWR0000000000000003A1       WRITER                                       ANNA                           CA         00000000295   05000   00000   00000\r\nSWT0000000000000004A1       050000000000000I2136 001\r\nPWR0000000000000005P1       EXAMPLE MUSIC                                                            A1\r\nREC0000000000000006                                                                                                                                                                                                                                      ATABC2600001\r\nGRT000010000000100000009\r\nTRL000010000000100000011\r\n") ≡ told 4 2
unfolding file_fault since is_ended is_open open_type groups_before transactions_in_group lines_in_group next_number begins_transaction fault_at is_too_large has_type is_frame is_code type_of_group is_read bears is_numbered has_group_counts has_file_counts is_dated is_header is_opening is_closing is_trailer is_record is_real_date is_real_time is_date is_time line_of_piece field fill_field decimal_value is_blank
no_group_header = refl

-- a group ID that is not the next
wrong_group_id : file_fault (codes "PB000000012") (codes "HDRPB000000012EXAMPLE MUSIC                                01.102026010510150020260106\r\nGRHNWR0000202.200000000000\r\nNWR0000000000000000FIRST SONG                                                    W1            T0345246801\r\nSPU000000000000000101P1       EXAMPLE MUSIC                                 E          00000000199                 05000   10000   10000\r\nSPT0000000000000002P1             050001000010000I2136 001\r\nSWR0000000000000003A1       WRITER                                       ANNA                           CA         00000000295   05000   00000   00000\r\nSWT0000000000000004A1       050000000000000I2136 001\r\nPWR0000000000000005P1       EXAMPLE MUSIC                                                            A1\r\nREC0000000000000006                                                                                                                                                                                                                                      ATABC2600001\r\nGRT000010000000100000009\r\nTRL000010000000100000011\r\n") ≡ told 5 2
unfolding file_fault since is_ended is_open open_type groups_before transactions_in_group lines_in_group next_number begins_transaction fault_at is_too_large has_type is_frame is_code type_of_group is_read bears is_numbered has_group_counts has_file_counts is_dated is_header is_opening is_closing is_trailer is_record is_real_date is_real_time is_date is_time line_of_piece field fill_field decimal_value is_blank
wrong_group_id = refl

-- a transaction type with a mark
wrong_type : file_fault (codes "PB000000012") (codes "HDRPB000000012EXAMPLE MUSIC                                01.102026010510150020260106\r\nGRHN_R0000102.200000000000\r\nNWR0000000000000000FIRST SONG                                                    W1            T0345246801\r\nSPU000000000000000101P1       EXAMPLE MUSIC                                 E          00000000199                 05000   10000   10000\r\nSPT0000000000000002P1             050001000010000I2136 001\r\nSWR0000000000000003A1       WRITER                                       ANNA                           CA         00000000295   05000   00000   00000\r\nSWT0000000000000004A1       050000000000000I2136 001\r\nPWR0000000000000005P1       EXAMPLE MUSIC                                                            A1\r\nREC0000000000000006                                                                                                                                                                                                                                      ATABC2600001\r\nGRT000010000000100000009\r\nTRL000010000000100000011\r\n") ≡ told 13 2
unfolding file_fault since is_ended is_open open_type groups_before transactions_in_group lines_in_group next_number begins_transaction fault_at is_too_large has_type is_frame is_code type_of_group is_read bears is_numbered has_group_counts has_file_counts is_dated is_header is_opening is_closing is_trailer is_record is_real_date is_real_time is_date is_time line_of_piece field fill_field decimal_value is_blank
wrong_type = refl

-- a group without its first record
no_first_record : file_fault (codes "PB000000012") (codes "HDRPB000000012EXAMPLE MUSIC                                01.102026010510150020260106\r\nGRHNWR0000102.200000000000\r\nSPU000000000000000101P1       EXAMPLE MUSIC                                 E          00000000199                 05000   10000   10000\r\nSPT0000000000000002P1             050001000010000I2136 001\r\nSWR0000000000000003A1       WRITER                                       ANNA                           CA         00000000295   05000   00000   00000\r\nSWT0000000000000004A1       050000000000000I2136 001\r\nPWR0000000000000005P1       EXAMPLE MUSIC                                                            A1\r\nREC0000000000000006                                                                                                                                                                                                                                      ATABC2600001\r\nGRT000010000000100000009\r\nTRL000010000000100000011\r\n") ≡ told 6 3
unfolding file_fault since is_ended is_open open_type groups_before transactions_in_group lines_in_group next_number begins_transaction fault_at is_too_large has_type is_frame is_code type_of_group is_read bears is_numbered has_group_counts has_file_counts is_dated is_header is_opening is_closing is_trailer is_record is_real_date is_real_time is_date is_time line_of_piece field fill_field decimal_value is_blank
no_first_record = refl

-- a record sequence that jumps
wrong_sequence : file_fault (codes "PB000000012") (codes "HDRPB000000012EXAMPLE MUSIC                                01.102026010510150020260106\r\nGRHNWR0000102.200000000000\r\nNWR0000000000000000FIRST SONG                                                    W1            T0345246801\r\nSPU000000000000000101P1       EXAMPLE MUSIC                                 E          00000000199                 05000   10000   10000\r\nSPT0000000000000003P1             050001000010000I2136 001\r\nSWR0000000000000003A1       WRITER                                       ANNA                           CA         00000000295   05000   00000   00000\r\nSWT0000000000000004A1       050000000000000I2136 001\r\nPWR0000000000000005P1       EXAMPLE MUSIC                                                            A1\r\nREC0000000000000006                                                                                                                                                                                                                                      ATABC2600001\r\nGRT000010000000100000009\r\nTRL000010000000100000011\r\n") ≡ told 7 5
unfolding file_fault since is_ended is_open open_type groups_before transactions_in_group lines_in_group next_number begins_transaction fault_at is_too_large has_type is_frame is_code type_of_group is_read bears is_numbered has_group_counts has_file_counts is_dated is_header is_opening is_closing is_trailer is_record is_real_date is_real_time is_date is_time line_of_piece field fill_field decimal_value is_blank
wrong_sequence = refl

-- a record count that is too small
wrong_total : file_fault (codes "PB000000012") (codes "HDRPB000000012EXAMPLE MUSIC                                01.102026010510150020260106\r\nGRHNWR0000102.200000000000\r\nNWR0000000000000000FIRST SONG                                                    W1            T0345246801\r\nSPU000000000000000101P1       EXAMPLE MUSIC                                 E          00000000199                 05000   10000   10000\r\nSPT0000000000000002P1             050001000010000I2136 001\r\nSWR0000000000000003A1       WRITER                                       ANNA                           CA         00000000295   05000   00000   00000\r\nSWT0000000000000004A1       050000000000000I2136 001\r\nPWR0000000000000005P1       EXAMPLE MUSIC                                                            A1\r\nREC0000000000000006                                                                                                                                                                                                                                      ATABC2600001\r\nGRT000010000000100000009\r\nTRL000010000000100000010\r\n") ≡ told 9 11
unfolding file_fault since is_ended is_open open_type groups_before transactions_in_group lines_in_group next_number begins_transaction fault_at is_too_large has_type is_frame is_code type_of_group is_read bears is_numbered has_group_counts has_file_counts is_dated is_header is_opening is_closing is_trailer is_record is_real_date is_real_time is_date is_time line_of_piece field fill_field decimal_value is_blank
wrong_total = refl

-- another sender
other_sender : file_fault (codes "PB000000034") (codes "HDRPB000000012EXAMPLE MUSIC                                01.102026010510150020260106\r\nGRHNWR0000102.200000000000\r\nNWR0000000000000000FIRST SONG                                                    W1            T0345246801\r\nSPU000000000000000101P1       EXAMPLE MUSIC                                 E          00000000199                 05000   10000   10000\r\nSPT0000000000000002P1             050001000010000I2136 001\r\nSWR0000000000000003A1       WRITER                                       ANNA                           CA         00000000295   05000   00000   00000\r\nSWT0000000000000004A1       050000000000000I2136 001\r\nPWR0000000000000005P1       EXAMPLE MUSIC                                                            A1\r\nREC0000000000000006                                                                                                                                                                                                                                      ATABC2600001\r\nGRT000010000000100000009\r\nTRL000010000000100000011\r\n") ≡ told 2 1
unfolding file_fault since is_ended is_open open_type groups_before transactions_in_group lines_in_group next_number begins_transaction fault_at is_too_large has_type is_frame is_code type_of_group is_read bears is_numbered has_group_counts has_file_counts is_dated is_header is_opening is_closing is_trailer is_record is_real_date is_real_time is_date is_time line_of_piece field fill_field decimal_value is_blank
other_sender = refl

-- the registration with LF alone, none at its end
line_feeds_alone : file_fault (codes "PB000000012") (codes "HDRPB000000012EXAMPLE MUSIC                                01.102026010510150020260106\nGRHNWR0000102.200000000000\nNWR0000000000000000FIRST SONG                                                    W1            T0345246801\nSPU000000000000000101P1       EXAMPLE MUSIC                                 E          00000000199                 05000   10000   10000\nSPT0000000000000002P1             050001000010000I2136 001\nSWR0000000000000003A1       WRITER                                       ANNA                           CA         00000000295   05000   00000   00000\nSWT0000000000000004A1       050000000000000I2136 001\nPWR0000000000000005P1       EXAMPLE MUSIC                                                            A1\nREC0000000000000006                                                                                                                                                                                                                                      ATABC2600001\nGRT000010000000100000009\nTRL000010000000100000011") ≡ None
unfolding file_fault since is_ended is_open open_type groups_before transactions_in_group lines_in_group next_number begins_transaction fault_at is_too_large has_type is_frame is_code type_of_group is_read bears is_numbered has_group_counts has_file_counts is_dated is_header is_opening is_closing is_trailer is_record is_real_date is_real_time is_date is_time line_of_piece field fill_field decimal_value is_blank
line_feeds_alone = refl

-- a revision
revision : file_fault (codes "PB000000012") (codes "HDRPB000000012EXAMPLE MUSIC                                01.102026010510150020260106\r\nGRHREV0000102.200000000000\r\nREV0000000000000000FIRST SONG                                                    W1            T0345246801\r\nSPU000000000000000101P1       EXAMPLE MUSIC                                 E          00000000199                 05000   10000   10000\r\nSPT0000000000000002P1             050001000010000I2136 001\r\nSWR0000000000000003A1       WRITER                                       ANNA                           CA         00000000295   05000   00000   00000\r\nSWT0000000000000004A1       050000000000000I2136 001\r\nPWR0000000000000005P1       EXAMPLE MUSIC                                                            A1\r\nREC0000000000000006                                                                                                                                                                                                                                      ATABC2600001\r\nGRT000010000000100000009\r\nTRL000010000000100000011\r\n") ≡ None
unfolding file_fault since is_ended is_open open_type groups_before transactions_in_group lines_in_group next_number begins_transaction fault_at is_too_large has_type is_frame is_code type_of_group is_read bears is_numbered has_group_counts has_file_counts is_dated is_header is_opening is_closing is_trailer is_record is_real_date is_real_time is_date is_time line_of_piece field fill_field decimal_value is_blank
revision = refl

-- blank lines behind the trailer, which it does not count
blank_rest : file_fault (codes "PB000000012") (codes "HDRPB000000012EXAMPLE MUSIC                                01.102026010510150020260106\r\nTRL000000000000000000002\r\n\r\n   \r\n") ≡ None
unfolding file_fault since is_ended is_open open_type groups_before transactions_in_group lines_in_group next_number begins_transaction fault_at is_too_large has_type is_frame is_code type_of_group is_read bears is_numbered has_group_counts has_file_counts is_dated is_header is_opening is_closing is_trailer is_record is_real_date is_real_time is_date is_time line_of_piece field fill_field decimal_value is_blank
blank_rest = refl

-- a group of the type of a group trailer, which is empty
trailer_group_type : file_fault (codes "PB000000012") (codes "HDRPB000000012EXAMPLE MUSIC                                01.102026010510150020260106\r\nGRHGRT0000102.200000000000\r\nGRT000010000000000000002\r\nTRL000010000000000000004\r\n") ≡ None
unfolding file_fault since is_ended is_open open_type groups_before transactions_in_group lines_in_group next_number begins_transaction fault_at is_too_large has_type is_frame is_code type_of_group is_read bears is_numbered has_group_counts has_file_counts is_dated is_header is_opening is_closing is_trailer is_record is_real_date is_real_time is_date is_time line_of_piece field fill_field decimal_value is_blank
trailer_group_type = refl

-- a REV in a group of NWR, which continues the registration
revision_in_registrations : file_fault (codes "PB000000012") (codes "HDRPB000000012EXAMPLE MUSIC                                01.102026010510150020260106\r\nGRHNWR0000102.200000000000\r\nNWR0000000000000000\r\nREV0000000000000001\r\nGRT000010000000100000004\r\nTRL000010000000100000006\r\n") ≡ None
unfolding file_fault since is_ended is_open open_type groups_before transactions_in_group lines_in_group next_number begins_transaction fault_at is_too_large has_type is_frame is_code type_of_group is_read bears is_numbered has_group_counts has_file_counts is_dated is_header is_opening is_closing is_trailer is_record is_real_date is_real_time is_date is_time line_of_piece field fill_field decimal_value is_blank
revision_in_registrations = refl

-- two transactions, their sequence numbers from 0 and their record sequences from 0 again
second_registration : file_fault (codes "PB000000012") (codes "HDRPB000000012EXAMPLE MUSIC                                01.102026010510150020260106\r\nGRHNWR0000102.200000000000\r\nNWR0000000000000000\r\nREC0000000000000001\r\nNWR0000000100000000\r\nREC0000000100000001\r\nGRT000010000000200000006\r\nTRL000010000000200000008\r\n") ≡ None
unfolding file_fault since is_ended is_open open_type groups_before transactions_in_group lines_in_group next_number begins_transaction fault_at is_too_large has_type is_frame is_code type_of_group is_read bears is_numbered has_group_counts has_file_counts is_dated is_header is_opening is_closing is_trailer is_record is_real_date is_real_time is_date is_time line_of_piece field fill_field decimal_value is_blank
second_registration = refl

-- a second transaction with the first one's sequence number
same_transaction_sequence : file_fault (codes "PB000000012") (codes "HDRPB000000012EXAMPLE MUSIC                                01.102026010510150020260106\r\nGRHNWR0000102.200000000000\r\nNWR0000000000000000\r\nNWR0000000000000000\r\n") ≡ told 7 4
unfolding file_fault since is_ended is_open open_type groups_before transactions_in_group lines_in_group next_number begins_transaction fault_at is_too_large has_type is_frame is_code type_of_group is_read bears is_numbered has_group_counts has_file_counts is_dated is_header is_opening is_closing is_trailer is_record is_real_date is_real_time is_date is_time line_of_piece field fill_field decimal_value is_blank
same_transaction_sequence = refl

-- a file that ends in a group
cut_in_a_group : file_fault (codes "PB000000012") (codes "HDRPB000000012EXAMPLE MUSIC                                01.102026010510150020260106\r\nGRHNWR0000102.200000000000\r\nNWR0000000000000000FIRST SONG                                                    W1            T0345246801\r\nSPU000000000000000101P1       EXAMPLE MUSIC                                 E          00000000199                 05000   10000   10000\r\nSPT0000000000000002P1             050001000010000I2136 001\r\nSWR0000000000000003A1       WRITER                                       ANNA                           CA         00000000295   05000   00000   00000\r\nSWT0000000000000004A1       050000000000000I2136 001\r\nPWR0000000000000005P1       EXAMPLE MUSIC                                                            A1\r\nREC0000000000000006                                                                                                                                                                                                                                      ATABC2600001\r\n") ≡ told 10 10
unfolding file_fault since is_ended is_open open_type groups_before transactions_in_group lines_in_group next_number begins_transaction fault_at is_too_large has_type is_frame is_code type_of_group is_read bears is_numbered has_group_counts has_file_counts is_dated is_header is_opening is_closing is_trailer is_record is_real_date is_real_time is_date is_time line_of_piece field fill_field decimal_value is_blank
cut_in_a_group = refl

-- a file that ends with its header
cut_header_alone : file_fault (codes "PB000000012") (codes "HDRPB000000012EXAMPLE MUSIC                                01.102026010510150020260106\r\n") ≡ told 10 2
unfolding file_fault since is_ended is_open open_type groups_before transactions_in_group lines_in_group next_number begins_transaction fault_at is_too_large has_type is_frame is_code type_of_group is_read bears is_numbered has_group_counts has_file_counts is_dated is_header is_opening is_closing is_trailer is_record is_real_date is_real_time is_date is_time line_of_piece field fill_field decimal_value is_blank
cut_header_alone = refl

-- an empty line between groups
empty_line_between_groups : file_fault (codes "PB000000012") (codes "HDRPB000000012EXAMPLE MUSIC                                01.102026010510150020260106\r\n\r\n") ≡ told 4 2
unfolding file_fault since is_ended is_open open_type groups_before transactions_in_group lines_in_group next_number begins_transaction fault_at is_too_large has_type is_frame is_code type_of_group is_read bears is_numbered has_group_counts has_file_counts is_dated is_header is_opening is_closing is_trailer is_record is_real_date is_real_time is_date is_time line_of_piece field fill_field decimal_value is_blank
empty_line_between_groups = refl

-- a first line of 2,001 bytes that is no header: its size is told
size_first : file_fault (codes "PB000000012") (codes "XXXXXXXXXXXXXXXXXXXXXXXXXXXXXXXXXXXXXXXXXXXXXXXXXXXXXXXXXXXXXXXXXXXXXXXXXXXXXXXXXXXXXXXXXXXXXXXXXXXXXXXXXXXXXXXXXXXXXXXXXXXXXXXXXXXXXXXXXXXXXXXXXXXXXXXXXXXXXXXXXXXXXXXXXXXXXXXXXXXXXXXXXXXXXXXXXXXXXXXXXXXXXXXXXXXXXXXXXXXXXXXXXXXXXXXXXXXXXXXXXXXXXXXXXXXXXXXXXXXXXXXXXXXXXXXXXXXXXXXXXXXXXXXXXXXXXXXXXXXXXXXXXXXXXXXXXXXXXXXXXXXXXXXXXXXXXXXXXXXXXXXXXXXXXXXXXXXXXXXXXXXXXXXXXXXXXXXXXXXXXXXXXXXXXXXXXXXXXXXXXXXXXXXXXXXXXXXXXXXXXXXXXXXXXXXXXXXXXXXXXXXXXXXXXXXXXXXXXXXXXXXXXXXXXXXXXXXXXXXXXXXXXXXXXXXXXXXXXXXXXXXXXXXXXXXXXXXXXXXXXXXXXXXXXXXXXXXXXXXXXXXXXXXXXXXXXXXXXXXXXXXXXXXXXXXXXXXXXXXXXXXXXXXXXXXXXXXXXXXXXXXXXXXXXXXXXXXXXXXXXXXXXXXXXXXXXXXXXXXXXXXXXXXXXXXXXXXXXXXXXXXXXXXXXXXXXXXXXXXXXXXXXXXXXXXXXXXXXXXXXXXXXXXXXXXXXXXXXXXXXXXXXXXXXXXXXXXXXXXXXXXXXXXXXXXXXXXXXXXXXXXXXXXXXXXXXXXXXXXXXXXXXXXXXXXXXXXXXXXXXXXXXXXXXXXXXXXXXXXXXXXXXXXXXXXXXXXXXXXXXXXXXXXXXXXXXXXXXXXXXXXXXXXXXXXXXXXXXXXXXXXXXXXXXXXXXXXXXXXXXXXXXXXXXXXXXXXXXXXXXXXXXXXXXXXXXXXXXXXXXXXXXXXXXXXXXXXXXXXXXXXXXXXXXXXXXXXXXXXXXXXXXXXXXXXXXXXXXXXXXXXXXXXXXXXXXXXXXXXXXXXXXXXXXXXXXXXXXXXXXXXXXXXXXXXXXXXXXXXXXXXXXXXXXXXXXXXXXXXXXXXXXXXXXXXXXXXXXXXXXXXXXXXXXXXXXXXXXXXXXXXXXXXXXXXXXXXXXXXXXXXXXXXXXXXXXXXXXXXXXXXXXXXXXXXXXXXXXXXXXXXXXXXXXXXXXXXXXXXXXXXXXXXXXXXXXXXXXXXXXXXXXXXXXXXXXXXXXXXXXXXXXXXXXXXXXXXXXXXXXXXXXXXXXXXXXXXXXXXXXXXXXXXXXXXXXXXXXXXXXXXXXXXXXXXXXXXXXXXXXXXXXXXXXXXXXXXXXXXXXXXXXXXXXXXXXXXXXXXXXXXXXXXXXXXXXXXXXXXXXXXXXXXXXXXXXXXXXXXXXXXXXXXXXXXXXXXXXXXXXXXXXXXXXXXXXXXXXXXXXXXXXXXXXXXXXXXXXXXXXXXXXXXXXXXXXXXXXXXXXXXXXXXXXXXXXXXXXXXXXXXXXXXXXXXXXXXXXXXXXXXXXXXXXXXXXXXXXXXXXXXXXXXXXXXXXXXXXXXXXXXXXXXXXXXXXXXXXXXXXXXXXXXXXXXXXXXXXXXXXXXXXXXXXXXXXXXXXXXXXXXXXXXXXXXXXXXXXXXXXXXXXXXXXXXXXXXXXXXXXXXXXXXXXXXXXXXXXXXXXXXXXXXXXXXXXXXXXXXXXXXXXXXXXXXXXXXXXXXXXXXXXXXXXXXXXXXXXXXXXXXXXXXXXXXXXXXXXXXXXXXXXXXXXXXXXXXXXXXXXXXXXXXXXXXXXXXXXXXXXXXXXXXXXXXXXXXXXXXXXXXXXXXXXXXXXXXXXXXXXXXXXXXXXXXXXXXXXXXXXXXXXXXXXXXXXXXXXXXXXXXXXXXXXXXXXXXXXXXXXXXXXXXXXXXXXXXXXXXXXXXXXXXXXXXXXXXXXXXXXXXXXXXXXXXXXXXXXXXXXXXXXXXXXXXXXXXXXXXXXXXXXXXXXXXXXXXXXXXXX\r\n") ≡ told 12 1
unfolding file_fault since is_ended is_open open_type groups_before transactions_in_group lines_in_group next_number begins_transaction fault_at is_too_large has_type is_frame is_code type_of_group is_read bears is_numbered has_group_counts has_file_counts is_dated is_header is_opening is_closing is_trailer is_record is_real_date is_real_time is_date is_time line_of_piece field fill_field decimal_value is_blank
size_first = refl

-- a first line of 2,000 bytes that is no header
line_of_2000 : file_fault (codes "PB000000012") (codes "XXXXXXXXXXXXXXXXXXXXXXXXXXXXXXXXXXXXXXXXXXXXXXXXXXXXXXXXXXXXXXXXXXXXXXXXXXXXXXXXXXXXXXXXXXXXXXXXXXXXXXXXXXXXXXXXXXXXXXXXXXXXXXXXXXXXXXXXXXXXXXXXXXXXXXXXXXXXXXXXXXXXXXXXXXXXXXXXXXXXXXXXXXXXXXXXXXXXXXXXXXXXXXXXXXXXXXXXXXXXXXXXXXXXXXXXXXXXXXXXXXXXXXXXXXXXXXXXXXXXXXXXXXXXXXXXXXXXXXXXXXXXXXXXXXXXXXXXXXXXXXXXXXXXXXXXXXXXXXXXXXXXXXXXXXXXXXXXXXXXXXXXXXXXXXXXXXXXXXXXXXXXXXXXXXXXXXXXXXXXXXXXXXXXXXXXXXXXXXXXXXXXXXXXXXXXXXXXXXXXXXXXXXXXXXXXXXXXXXXXXXXXXXXXXXXXXXXXXXXXXXXXXXXXXXXXXXXXXXXXXXXXXXXXXXXXXXXXXXXXXXXXXXXXXXXXXXXXXXXXXXXXXXXXXXXXXXXXXXXXXXXXXXXXXXXXXXXXXXXXXXXXXXXXXXXXXXXXXXXXXXXXXXXXXXXXXXXXXXXXXXXXXXXXXXXXXXXXXXXXXXXXXXXXXXXXXXXXXXXXXXXXXXXXXXXXXXXXXXXXXXXXXXXXXXXXXXXXXXXXXXXXXXXXXXXXXXXXXXXXXXXXXXXXXXXXXXXXXXXXXXXXXXXXXXXXXXXXXXXXXXXXXXXXXXXXXXXXXXXXXXXXXXXXXXXXXXXXXXXXXXXXXXXXXXXXXXXXXXXXXXXXXXXXXXXXXXXXXXXXXXXXXXXXXXXXXXXXXXXXXXXXXXXXXXXXXXXXXXXXXXXXXXXXXXXXXXXXXXXXXXXXXXXXXXXXXXXXXXXXXXXXXXXXXXXXXXXXXXXXXXXXXXXXXXXXXXXXXXXXXXXXXXXXXXXXXXXXXXXXXXXXXXXXXXXXXXXXXXXXXXXXXXXXXXXXXXXXXXXXXXXXXXXXXXXXXXXXXXXXXXXXXXXXXXXXXXXXXXXXXXXXXXXXXXXXXXXXXXXXXXXXXXXXXXXXXXXXXXXXXXXXXXXXXXXXXXXXXXXXXXXXXXXXXXXXXXXXXXXXXXXXXXXXXXXXXXXXXXXXXXXXXXXXXXXXXXXXXXXXXXXXXXXXXXXXXXXXXXXXXXXXXXXXXXXXXXXXXXXXXXXXXXXXXXXXXXXXXXXXXXXXXXXXXXXXXXXXXXXXXXXXXXXXXXXXXXXXXXXXXXXXXXXXXXXXXXXXXXXXXXXXXXXXXXXXXXXXXXXXXXXXXXXXXXXXXXXXXXXXXXXXXXXXXXXXXXXXXXXXXXXXXXXXXXXXXXXXXXXXXXXXXXXXXXXXXXXXXXXXXXXXXXXXXXXXXXXXXXXXXXXXXXXXXXXXXXXXXXXXXXXXXXXXXXXXXXXXXXXXXXXXXXXXXXXXXXXXXXXXXXXXXXXXXXXXXXXXXXXXXXXXXXXXXXXXXXXXXXXXXXXXXXXXXXXXXXXXXXXXXXXXXXXXXXXXXXXXXXXXXXXXXXXXXXXXXXXXXXXXXXXXXXXXXXXXXXXXXXXXXXXXXXXXXXXXXXXXXXXXXXXXXXXXXXXXXXXXXXXXXXXXXXXXXXXXXXXXXXXXXXXXXXXXXXXXXXXXXXXXXXXXXXXXXXXXXXXXXXXXXXXXXXXXXXXXXXXXXXXXXXXXXXXXXXXXXXXXXXXXXXXXXXXXXXXXXXXXXXXXXXXXXXXXXXXXXXXXXXXXXXXXXXXXXXXXXXXXXXXXXXXXXXXXXXXXXXXXXXXXXXXXXXXXXXXXXXXXXXXXXXXXXXXXXXXXXXXXXXXXXXXXXXXXXXXXXXXXXXXXXXXXXXXXXXXXXXXXXXXXXXXXXXXXXXXXXXXXXXXXXXXXXXXXXXXXXXXXXXXXXXXXXXXXXXXXXXXXXXXXXXXXXXXXXXXXXXXXXXXXXXXXXXXXXXXXXXXXXXXXXXXXXXXXXXXXXXXXXXXX\r\n") ≡ told 1 1
unfolding file_fault since is_ended is_open open_type groups_before transactions_in_group lines_in_group next_number begins_transaction fault_at is_too_large has_type is_frame is_code type_of_group is_read bears is_numbered has_group_counts has_file_counts is_dated is_header is_opening is_closing is_trailer is_record is_real_date is_real_time is_date is_time line_of_piece field fill_field decimal_value is_blank
line_of_2000 = refl

-- a group ID that is not the next, with a transaction type that is none
group_id_first : file_fault (codes "PB000000012") (codes "HDRPB000000012EXAMPLE MUSIC                                01.102026010510150020260106\r\nGRHN_R0000202.200000000000\r\n") ≡ told 5 2
unfolding file_fault since is_ended is_open open_type groups_before transactions_in_group lines_in_group next_number begins_transaction fault_at is_too_large has_type is_frame is_code type_of_group is_read bears is_numbered has_group_counts has_file_counts is_dated is_header is_opening is_closing is_trailer is_record is_real_date is_real_time is_date is_time line_of_piece field fill_field decimal_value is_blank
group_id_first = refl

-- a first record of a group that begins no transaction, and whose type is none
place_first : file_fault (codes "PB000000012") (codes "HDRPB000000012EXAMPLE MUSIC                                01.102026010510150020260106\r\nGRHNWR0000102.200000000000\r\nN_R0000000000000000\r\n") ≡ told 6 3
unfolding file_fault since is_ended is_open open_type groups_before transactions_in_group lines_in_group next_number begins_transaction fault_at is_too_large has_type is_frame is_code type_of_group is_read bears is_numbered has_group_counts has_file_counts is_dated is_header is_opening is_closing is_trailer is_record is_real_date is_real_time is_date is_time line_of_piece field fill_field decimal_value is_blank
place_first = refl

-- a transmission header within a group, with wrong sequence numbers
header_in_a_group : file_fault (codes "PB000000012") (codes "HDRPB000000012EXAMPLE MUSIC                                01.102026010510150020260106\r\nGRHNWR0000102.200000000000\r\nNWR0000000000000000\r\nHDR\r\n") ≡ told 6 4
unfolding file_fault since is_ended is_open open_type groups_before transactions_in_group lines_in_group next_number begins_transaction fault_at is_too_large has_type is_frame is_code type_of_group is_read bears is_numbered has_group_counts has_file_counts is_dated is_header is_opening is_closing is_trailer is_record is_real_date is_real_time is_date is_time line_of_piece field fill_field decimal_value is_blank
header_in_a_group = refl

-- a record type that is none, with a wrong record sequence
sequence_first : file_fault (codes "PB000000012") (codes "HDRPB000000012EXAMPLE MUSIC                                01.102026010510150020260106\r\nGRHNWR0000102.200000000000\r\nNWR0000000000000000\r\nS_T0000000000000002\r\n") ≡ told 7 4
unfolding file_fault since is_ended is_open open_type groups_before transactions_in_group lines_in_group next_number begins_transaction fault_at is_too_large has_type is_frame is_code type_of_group is_read bears is_numbered has_group_counts has_file_counts is_dated is_header is_opening is_closing is_trailer is_record is_real_date is_real_time is_date is_time line_of_piece field fill_field decimal_value is_blank
sequence_first = refl

-- a record type that is none
wrong_record_type : file_fault (codes "PB000000012") (codes "HDRPB000000012EXAMPLE MUSIC                                01.102026010510150020260106\r\nGRHNWR0000102.200000000000\r\nNWR0000000000000000\r\nS_T0000000000000001\r\n") ≡ told 13 4
unfolding file_fault since is_ended is_open open_type groups_before transactions_in_group lines_in_group next_number begins_transaction fault_at is_too_large has_type is_frame is_code type_of_group is_read bears is_numbered has_group_counts has_file_counts is_dated is_header is_opening is_closing is_trailer is_record is_real_date is_real_time is_date is_time line_of_piece field fill_field decimal_value is_blank
wrong_record_type = refl

-- a record type that is none, in a group that is not read
wrong_type_unread : file_fault (codes "PB000000012") (codes "HDRPB000000012EXAMPLE MUSIC                                01.102026010510150020260106\r\nGRHAGR0000102.200000000000\r\nAGR\r\nA_R\r\n") ≡ told 13 4
unfolding file_fault since is_ended is_open open_type groups_before transactions_in_group lines_in_group next_number begins_transaction fault_at is_too_large has_type is_frame is_code type_of_group is_read bears is_numbered has_group_counts has_file_counts is_dated is_header is_opening is_closing is_trailer is_record is_real_date is_real_time is_date is_time line_of_piece field fill_field decimal_value is_blank
wrong_type_unread = refl

-- a group trailer with another group ID
trailer_of_another_group : file_fault (codes "PB000000012") (codes "HDRPB000000012EXAMPLE MUSIC                                01.102026010510150020260106\r\nGRHNWR0000102.200000000000\r\nNWR0000000000000000\r\nGRT000020000000100000003\r\n") ≡ told 8 4
unfolding file_fault since is_ended is_open open_type groups_before transactions_in_group lines_in_group next_number begins_transaction fault_at is_too_large has_type is_frame is_code type_of_group is_read bears is_numbered has_group_counts has_file_counts is_dated is_header is_opening is_closing is_trailer is_record is_real_date is_real_time is_date is_time line_of_piece field fill_field decimal_value is_blank
trailer_of_another_group = refl

-- a group trailer that counts no transaction
trailer_without_transactions : file_fault (codes "PB000000012") (codes "HDRPB000000012EXAMPLE MUSIC                                01.102026010510150020260106\r\nGRHNWR0000102.200000000000\r\nNWR0000000000000000\r\nGRT000010000000000000003\r\n") ≡ told 8 4
unfolding file_fault since is_ended is_open open_type groups_before transactions_in_group lines_in_group next_number begins_transaction fault_at is_too_large has_type is_frame is_code type_of_group is_read bears is_numbered has_group_counts has_file_counts is_dated is_header is_opening is_closing is_trailer is_record is_real_date is_real_time is_date is_time line_of_piece field fill_field decimal_value is_blank
trailer_without_transactions = refl

-- a transmission trailer that counts no group
trailer_without_groups : file_fault (codes "PB000000012") (codes "HDRPB000000012EXAMPLE MUSIC                                01.102026010510150020260106\r\nGRHNWR0000102.200000000000\r\nNWR0000000000000000\r\nGRT000010000000100000003\r\nTRL000000000000100000005\r\n") ≡ told 9 5
unfolding file_fault since is_ended is_open open_type groups_before transactions_in_group lines_in_group next_number begins_transaction fault_at is_too_large has_type is_frame is_code type_of_group is_read bears is_numbered has_group_counts has_file_counts is_dated is_header is_opening is_closing is_trailer is_record is_real_date is_real_time is_date is_time line_of_piece field fill_field decimal_value is_blank
trailer_without_groups = refl

-- a transmission trailer that counts no transaction
trailer_without_any_transaction : file_fault (codes "PB000000012") (codes "HDRPB000000012EXAMPLE MUSIC                                01.102026010510150020260106\r\nGRHNWR0000102.200000000000\r\nNWR0000000000000000\r\nGRT000010000000100000003\r\nTRL000010000000000000005\r\n") ≡ told 9 5
unfolding file_fault since is_ended is_open open_type groups_before transactions_in_group lines_in_group next_number begins_transaction fault_at is_too_large has_type is_frame is_code type_of_group is_read bears is_numbered has_group_counts has_file_counts is_dated is_header is_opening is_closing is_trailer is_record is_real_date is_real_time is_date is_time line_of_piece field fill_field decimal_value is_blank
trailer_without_any_transaction = refl

-- a line that ends with byte 1,048,576 of the body, and one that ends with the next
body_at_the_limit : is_too_large 1048576 [] ≡ false
unfolding is_too_large
body_at_the_limit = refl

body_over_the_limit : is_too_large 1048577 [] ≡ true
unfolding is_too_large
body_over_the_limit = refl

-- days of leap years and others, and years
dates : map (λ text. is_date text) (codes "20240229" ∷ codes "20000229" ∷ codes "00010101" ∷ codes "99991231" ∷ []) ≡ true ∷ true ∷ true ∷ true ∷ []
unfolding is_date is_real_date decimal_value
dates = refl

no_dates : map (λ text. is_date text) (codes "20230229" ∷ codes "19000229" ∷ codes "20260431" ∷ codes "00000101" ∷ codes "20261301" ∷ codes "20260100" ∷ codes "20260001" ∷ codes "2026010 " ∷ []) ≡ false ∷ false ∷ false ∷ false ∷ false ∷ false ∷ false ∷ false ∷ []
unfolding is_date is_real_date decimal_value
no_dates = refl

-- times to 235959
times : map (λ text. is_time text) (codes "000000" ∷ codes "235959" ∷ codes "240000" ∷ codes "006000" ∷ codes "000060" ∷ codes "10150 " ∷ []) ≡ true ∷ true ∷ false ∷ false ∷ false ∷ false ∷ []
unfolding is_time is_real_time decimal_value
times = refl

-- group ID, transaction sequence and number of records of each transaction of each group
numbers : Transmission → List (List (ℕ × ℕ × ℕ))
numbers t = map (λ g. map (λ x. (x.group, x.sequence, length x.records)) g.transactions) t.groups

-- a group that is not read, and a registration of seven records
told_two_groups : numbers (transmission_in (codes "HDRPB000000012EXAMPLE MUSIC                                01.102026010510150020260106\r\nGRHAGR0000102.200000000000\r\nAGRXXXXXXXX00000005\r\nGRT000010000000100000003\r\nGRHNWR0000202.200000000000\r\nNWR0000000000000000FIRST SONG                                                    W1            T0345246801\r\nSPU000000000000000101P1       EXAMPLE MUSIC                                 E          00000000199                 05000   10000   10000\r\nSPT0000000000000002P1             050001000010000I2136 001\r\nSWR0000000000000003A1       WRITER                                       ANNA                           CA         00000000295   05000   00000   00000\r\nSWT0000000000000004A1       050000000000000I2136 001\r\nPWR0000000000000005P1       EXAMPLE MUSIC                                                            A1\r\nREC0000000000000006                                                                                                                                                                                                                                      ATABC2600001\r\nGRT000020000000100000009\r\nTRL000020000000200000014\r\n")) ≡ [] ∷ ((2, 0, 7) ∷ []) ∷ []
unfolding numbers transmission_in field fill_field line_of_piece has_type is_read type_of_group record_of
told_two_groups = refl

-- two registrations, the first of two records, the second of one
told_two_works : numbers (transmission_in (codes "HDRPB000000012EXAMPLE MUSIC                                01.102026010510150020260106\r\nGRHNWR0000102.200000000000\r\nNWR0000000000000000\r\nREC0000000000000001\r\nNWR0000000100000000\r\nGRT000010000000200000005\r\nTRL000010000000200000007\r\n")) ≡ ((1, 0, 2) ∷ (1, 1, 1) ∷ []) ∷ []
unfolding numbers transmission_in field fill_field line_of_piece has_type is_read type_of_group record_of
told_two_works = refl

-- header and trailer alone are a file, with nothing between them
file_without_groups : File (lines (codes "HDRPB000000012EXAMPLE MUSIC                                01.102026010510150020260106\r\nTRL000000000000000000002\r\n\r\n")) (codes "PB000000012") (transmission_in (codes "HDRPB000000012EXAMPLE MUSIC                                01.102026010510150020260106\r\nTRL000000000000000000002\r\n\r\n"))
unfolding transmission_in field fill_field line_of_piece has_type is_header is_trailer is_dated is_real_date is_real_time is_date is_time has_group_counts has_file_counts bears decimal_value is_blank
file_without_groups = record {
  shape = record { header = codes "HDRPB000000012EXAMPLE MUSIC                                01.102026010510150020260106"; groups = []; trailer = codes "TRL000000000000000000002"; rest = [] ∷ [] };
  joined = refl;
  is_file = record { header = refl; groups = tt; trailer = refl; rest = refl };
  told = refl;
}
