-- What single lines bear, and which are right where they stand.
use Rattle.std.specs.Prelude.{ℕ, Bool, not, ◌&&◌, ◌||◌, List, ◌++◌, ◌==◌, bytes_eq}
use Rattle.work_ids.specs.Digits.{decimal_value}
use Rattle.cwr_records.specs.Places.{record_type_in, record_sequence_in, transaction_sequence_in}
use Rattle.cwr_records.specs.Records.{group_header_of, group_trailer_of, header_of, trailer_of}
use Rattle.cwr_files.specs.Dates.{passes, is_date, is_time}
use Rattle.cwr_files.specs.RecordTypes.{hdr, grh, grt, trl, has_type, is_frame, is_code, is_read, type_of_group}

-- whether a field is digits alone that are this number (profile)
unfoldable pub bears : List ℕ → ℕ → Bool
bears bytes number = passes (λ n. n == number) (decimal_value bytes)

-- whether a line bears this transaction sequence and this record sequence (CISAC CWR 2.2)
unfoldable pub is_numbered : ℕ → ℕ → List ℕ → Bool
is_numbered sequence number line = bears (transaction_sequence_in line) sequence && bears (record_sequence_in line) number

-- whether a line bears this group ID and these counts as a group trailer does (CISAC CWR 2.2)
unfoldable pub has_group_counts : ℕ → ℕ → ℕ → List ℕ → Bool
has_group_counts group transactions records line =
    bears (group_trailer_of line).group_id group && bears (group_trailer_of line).transaction_count transactions
    && bears (group_trailer_of line).record_count records

-- whether a line bears these counts as a transmission trailer does (CISAC CWR 2.2)
unfoldable pub has_file_counts : ℕ → ℕ → ℕ → List ℕ → Bool
has_file_counts groups transactions records line =
    bears (trailer_of line).group_count groups && bears (trailer_of line).transaction_count transactions
    && bears (trailer_of line).record_count records

-- the sender key that a transmission header bears: its sender type and sender ID (CISAC CWR 2.2; that they are one key: profile)
abbrev pub sender_of_header : List ℕ → List ℕ
sender_of_header line = (header_of line).sender_type ++ (header_of line).sender_id

-- whether a header's creation date, transmission date and creation time are right (CISAC CWR 2.2)
unfoldable pub is_dated : List ℕ → Bool
is_dated line =
    is_date (header_of line).creation_date && is_time (header_of line).creation_time && is_date (header_of line).transmission_date

-- whether a line is a transmission header of a sender (CISAC CWR 2.2; the sender key: profile)
unfoldable pub is_header : List ℕ → List ℕ → Bool
is_header sender line = has_type hdr line && bytes_eq (sender_of_header line) sender && is_dated line

-- whether a line is the header of the group with this ID (CISAC CWR 2.2)
unfoldable pub is_opening : ℕ → List ℕ → Bool
is_opening group line = has_type grh line && bears (group_header_of line).group_id group && is_code (type_of_group line)

-- whether a line is the trailer of a group with this ID and these counts (CISAC CWR 2.2)
unfoldable pub is_closing : ℕ → ℕ → ℕ → List ℕ → Bool
is_closing group transactions records line = has_type grt line && has_group_counts group transactions records line

-- whether a line is a transmission trailer with these counts (CISAC CWR 2.2)
unfoldable pub is_trailer : ℕ → ℕ → ℕ → List ℕ → Bool
is_trailer groups transactions records line = has_type trl line && has_file_counts groups transactions records line

-- whether a line is a record in a group of a type, numbered so where the group is read (CISAC CWR 2.2; unread groups: profile)
unfoldable pub is_record : List ℕ → ℕ → ℕ → List ℕ → Bool
is_record type sequence number line =
    not (is_frame line) && (not (is_read type) || is_numbered sequence number line) && is_code (record_type_in line)
