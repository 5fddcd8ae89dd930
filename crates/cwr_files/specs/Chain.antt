-- Representation, not meaning: how the one pass finds a line's fault, test after test, by running counts. What it finds is said by LineFaults.
use Rattle.std.specs.Prelude.{ℕ, ◌+◌, not, ◌&&◌, ◌||◌, List, Option, Some, None, if◌then◌else◌, ◌==◌, bytes_eq}
use Rattle.cwr_records.specs.Lines.{is_blank}
use Rattle.cwr_records.specs.Places.{record_type_in}
use Rattle.cwr_records.specs.Records.{group_header_of}
use Rattle.cwr_files.specs.RecordTypes.{hdr, grh, grt, trl, has_type, is_frame, is_code, is_read, type_of_group}
use Rattle.cwr_files.specs.RightLines.{bears, is_dated, is_numbered, has_group_counts, has_file_counts, sender_of_header}
use Rattle.cwr_files.specs.LineFaults.{sequence_at, record_sequence_at, no_header, other_sender, wrong_date, wrong_group_id, wrong_type, wrong_file_counts, outside_groups, wrong_group_counts, misplaced_in_group, wrong_sequence, behind_trailer}

-- the fault of a transmission's first line
unfoldable pub header_fault : List ℕ → List ℕ → Option ℕ
header_fault sender line =
    if not (has_type hdr line) then Some no_header
    else (if not (bytes_eq (sender_of_header line) sender) then Some other_sender
    else (if not (is_dated line) then Some wrong_date else None))

-- that of a group header behind so many groups
unfoldable pub opening_fault : ℕ → List ℕ → Option ℕ
opening_fault groups line =
    if not (bears (group_header_of line).group_id (groups + 1)) then Some wrong_group_id
    else (if not (is_code (type_of_group line)) then Some wrong_type else None)

-- that of a transmission trailer behind so many groups, transactions and lines
unfoldable pub trailer_fault : ℕ → ℕ → ℕ → List ℕ → Option ℕ
trailer_fault groups transactions lines line =
    if has_file_counts groups transactions (lines + 1) line then None else Some wrong_file_counts

-- that of a line between groups, behind so many groups, transactions and lines
unfoldable pub between_fault : ℕ → ℕ → ℕ → List ℕ → Option ℕ
between_fault groups transactions lines line =
    if has_type grh line then opening_fault groups line
    else (if has_type trl line then trailer_fault groups transactions lines line else Some outside_groups)

-- that of a group trailer in the group with this ID, behind so many of its transactions and of its lines
unfoldable pub closing_fault : ℕ → ℕ → ℕ → List ℕ → Option ℕ
closing_fault group transactions lines line =
    if has_group_counts group transactions (lines + 1) line then None else Some wrong_group_counts

-- that of a record in a group of a type, behind so many of its transactions, where one that begins none would have this record sequence
unfoldable pub record_fault : List ℕ → ℕ → ℕ → List ℕ → Option ℕ
record_fault type transactions further line =
    if is_frame line || (not (has_type type line) && transactions == 0) then Some misplaced_in_group
    else (if is_read type && not (is_numbered (sequence_at type transactions line) (record_sequence_at type further line) line) then Some wrong_sequence
    else (if not (is_code (record_type_in line)) then Some wrong_type else None))

-- that of a line within the group with this ID and type
unfoldable pub group_fault : ℕ → List ℕ → ℕ → ℕ → ℕ → List ℕ → Option ℕ
group_fault group type transactions lines further line =
    if has_type grt line then closing_fault group transactions lines line
    else record_fault type transactions further line

-- that of a line after the transmission trailer
unfoldable pub ended_fault : List ℕ → Option ℕ
ended_fault line = if is_blank line then None else Some behind_trailer
