-- The faults of a line: for each number a sentence over the lines before it, the nearest first, and the line itself.
use Rattle.std.specs.Prelude.{ℕ, ◌+◌, ◌-◌, Bool, not, ◌&&◌, ◌||◌, List, [], ◌∷◌, length, nat_lt, if◌then◌else◌, ◌==◌, bytes_eq}
use Rattle.cwr_records.specs.Lines.{is_blank}
use Rattle.cwr_records.specs.Places.{record_type_in}
use Rattle.cwr_records.specs.Records.{group_header_of}
use Rattle.cwr_files.specs.LinesBefore.{is_first, is_between, is_within, is_ended, open_type, groups_before, transactions_before, transactions_in_group, lines_in_group, next_number}
use Rattle.cwr_files.specs.RecordTypes.{hdr, grh, grt, trl, has_type, is_code, is_read, type_of_group}
use Rattle.cwr_files.specs.RightLines.{bears, is_dated, is_numbered, has_group_counts, has_file_counts, sender_of_header}
use Rattle.cwr_files.specs.Sentences.{Sentence, sentence}
use Rattle.cwr_files.specs.Sizes.{max_line, max_body}

-- 1: the first line is no HDR (CISAC CWR 2.2; the number: profile)
abbrev pub no_header : ℕ
no_header = 1

abbrev pub is_no_header : List (List ℕ) → List ℕ → Bool
is_no_header past line = is_first past && not (has_type hdr line)

-- 2: the first line bears another sender key than the one that was handed in (profile)
abbrev pub other_sender : ℕ
other_sender = 2

abbrev pub has_other_sender : List ℕ → List (List ℕ) → List ℕ → Bool
has_other_sender sender past line = is_first past && not (bytes_eq (sender_of_header line) sender)

-- 3: the first line's creation date, creation time or transmission date is none (CISAC CWR 2.2; the number: profile)
abbrev pub wrong_date : ℕ
wrong_date = 3

abbrev pub has_wrong_date : List (List ℕ) → List ℕ → Bool
has_wrong_date past line = is_first past && not (is_dated line)

-- 4: between groups, neither GRH nor TRL (CISAC CWR 2.2; the number: profile)
abbrev pub outside_groups : ℕ
outside_groups = 4

abbrev pub is_outside_groups : List (List ℕ) → List ℕ → Bool
is_outside_groups past line = is_between past && not (has_type grh line) && not (has_type trl line)

-- 5: between groups, a GRH whose group ID is not digits alone that are the next number (CISAC CWR 2.2; the number: profile)
abbrev pub wrong_group_id : ℕ
wrong_group_id = 5

abbrev pub has_wrong_group_id : List (List ℕ) → List ℕ → Bool
has_wrong_group_id past line =
    is_between past && has_type grh line && not (bears (group_header_of line).group_id (groups_before past + 1))

-- HDR, GRH or TRL (CISAC CWR 2.2)
abbrev pub is_frame_of_groups : List ℕ → Bool
is_frame_of_groups line = has_type hdr line || has_type grh line || has_type trl line

-- another record than GRT, where no transaction of the group has begun and the record begins none (CISAC CWR 2.2)
abbrev pub is_before_transactions : List (List ℕ) → List ℕ → Bool
is_before_transactions past line =
    not (has_type grt line) && not (has_type (open_type past) line) && transactions_in_group past == 0

-- 6: within a group, HDR, GRH or TRL; or another record than GRT before the group's first transaction began (CISAC CWR 2.2; the number: profile)
abbrev pub misplaced_in_group : ℕ
misplaced_in_group = 6

abbrev pub is_misplaced_in_group : List (List ℕ) → List ℕ → Bool
is_misplaced_in_group past line = is_within past && (is_frame_of_groups line || is_before_transactions past line)

-- the transaction sequence of a line, behind so many transactions of its group (CISAC CWR 2.2)
abbrev pub sequence_at : List ℕ → ℕ → List ℕ → ℕ
sequence_at type transactions line = if has_type type line then transactions else transactions - 1

-- the record sequence of a line, where a line that begins no transaction would have this one (CISAC CWR 2.2)
abbrev pub record_sequence_at : List ℕ → ℕ → List ℕ → ℕ
record_sequence_at type further line = if has_type type line then 0 else further

-- 7: within a group of type NWR or REV, another record than GRT whose transaction or record sequence is not digits alone that are the right number (CISAC CWR 2.2; groups of other types, the number: profile)
abbrev pub wrong_sequence : ℕ
wrong_sequence = 7

abbrev pub has_wrong_sequence : List (List ℕ) → List ℕ → Bool
has_wrong_sequence past line =
    is_within past && not (has_type grt line) && is_read (open_type past)
    && not (is_numbered (sequence_at (open_type past) (transactions_in_group past) line) (record_sequence_at (open_type past) (next_number past) line) line)

-- 8: within a group, a GRT whose group ID, transaction count or record count is not digits alone that are right (CISAC CWR 2.2; the number: profile)
abbrev pub wrong_group_counts : ℕ
wrong_group_counts = 8

abbrev pub has_wrong_group_counts : List (List ℕ) → List ℕ → Bool
has_wrong_group_counts past line =
    is_within past && has_type grt line
    && not (has_group_counts (groups_before past) (transactions_in_group past) (lines_in_group past + 1) line)

-- 9: between groups, a TRL whose group, transaction or record count is not digits alone that are right (CISAC CWR 2.2; the number: profile)
abbrev pub wrong_file_counts : ℕ
wrong_file_counts = 9

abbrev pub has_wrong_file_counts : List (List ℕ) → List ℕ → Bool
has_wrong_file_counts past line =
    is_between past && has_type trl line
    && not (has_file_counts (groups_before past) (transactions_before past) (length past + 1) line)

-- 10: the body has a first line and ends behind these lines, before TRL (CISAC CWR 2.2; the number: profile)
abbrev pub no_trailer : ℕ
no_trailer = 10

abbrev pub lacks_trailer : List (List ℕ) → Bool
lacks_trailer past = not (is_first past) && not (is_ended past)

-- 11: after TRL, a line that is not all blanks (profile)
abbrev pub behind_trailer : ℕ
behind_trailer = 11

abbrev pub is_behind_trailer : List (List ℕ) → List ℕ → Bool
is_behind_trailer past line = is_ended past && not (is_blank line)

-- 12: the line is over 2,000 bytes without its end, or the body over 1,048,576 bytes at the end of it, its LF included (profile)
abbrev pub too_large : ℕ
too_large = 12

unfoldable pub is_too_large : ℕ → List ℕ → Bool
is_too_large end line = nat_lt max_line (length line) || nat_lt max_body end

-- 13: the transaction type of a GRH between groups, or the record type of a line within a group, is not three of A-Z and 0-9 (CISAC CWR 2.2; the characters, the number: profile)
abbrev pub wrong_type : ℕ
wrong_type = 13

abbrev pub has_wrong_type : List (List ℕ) → List ℕ → Bool
has_wrong_type past line =
    (is_between past && has_type grh line && not (is_code (type_of_group line)))
    || (is_within past && not (is_code (record_type_in line)))

-- the sentences on the structure, in the order of their numbers (profile)
abbrev pub structure_sentences : List ℕ → List (List ℕ) → List ℕ → List Sentence
structure_sentences sender past line =
    sentence no_header (is_no_header past line)
    ∷ sentence other_sender (has_other_sender sender past line)
    ∷ sentence wrong_date (has_wrong_date past line)
    ∷ sentence outside_groups (is_outside_groups past line)
    ∷ sentence wrong_group_id (has_wrong_group_id past line)
    ∷ sentence misplaced_in_group (is_misplaced_in_group past line)
    ∷ sentence wrong_sequence (has_wrong_sequence past line)
    ∷ sentence wrong_group_counts (has_wrong_group_counts past line)
    ∷ sentence wrong_file_counts (has_wrong_file_counts past line)
    ∷ sentence behind_trailer (is_behind_trailer past line)
    ∷ sentence wrong_type (has_wrong_type past line)
    ∷ []

-- the sentences on a line behind those lines, where the body has so many bytes at its end: 12 comes first, then the others by their numbers (profile)
abbrev pub line_sentences : List ℕ → List (List ℕ) → ℕ → List ℕ → List Sentence
line_sentences sender past end line = sentence too_large (is_too_large end line) ∷ structure_sentences sender past line

-- the sentences on the end of a body behind those lines: 1 there is no line, 10 (profile)
abbrev pub end_sentences : List (List ℕ) → List Sentence
end_sentences past = sentence no_header (is_first past) ∷ sentence no_trailer (lacks_trailer past) ∷ []
