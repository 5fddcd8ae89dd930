-- What an audit works out of the rows of transmissions, of ends and of returns, whose bodies it reads by their keys (representation).
use Rattle.std.specs.Prelude.{ℕ, ◌≡◌, ◌≤◌, Bool, true, false, ◌&&◌, ◌==◌, List, [], ◌∷◌, IsPermutation, Option, Some, None, bytes_eq, filter, length, map, nat_le}
use Rattle.std.specs.BTreeMap as tree
use Rattle.std.specs.List.{AllByRecursion}
use Rattle.sqlite_trees.specs.Tree.{Trees}
use Rattle.sqlite_value.specs.Order.{Row, column}
use Rattle.society_core.specs.Book.{is_reporter}
use Rattle.society_core.specs.Keys.{segment_cmp, segment_key}
use Rattle.society_core.specs.declared.segment_key.SegmentKey.{SegmentKey}
use Rattle.society_core.specs.declared.transmission_key.TransmissionKey.{TransmissionKey}
use Rattle.society_rows.specs.Layout as layout
use Rattle.society_rows.specs.Reads.{has_key}
use Rattle.society_rows.specs.Stored.{rows_in}
use Rattle.society_book.specs.BookRows.{is_end_row, is_return_row, is_transmission_row, same_segment_key, segment_key_of, transmission_key_of}
use Rattle.society_book.specs.Columns.{text_at, whole_number_at}
use Rattle.work_ids.specs.Blanks.{fill, without_trailing_blanks}
use Rattle.work_ids.specs.Numbers.{is_return_number}
use Rattle.work_ids.specs.Segments.{is_transmission_number, segment_of, sequence_of}
use Rattle.work_ids.specs.SenderKey.{is_sender_key}
use Rattle.book_audit.specs.Entries.{AreEntries, is_count, is_right_return, is_right_sent, is_right_stated, is_text}

-- whether a row has a text and a whole number from 0, and nothing else
abbrev pub has_key_form : Row → Bool
has_key_form row = length row == 2 && is_text (column row 0) && is_count (column row 1)

-- whether a row is the key of a transmission
abbrev pub is_sent_key : Row → Bool
is_sent_key row = has_key_form row && is_sender_key (text_at 0 row) && is_transmission_number (whole_number_at 1 row)

-- whether bytes are those of a reporter, written without the blanks that fill it
abbrev pub is_reporter_spelled : List ℕ → Bool
is_reporter_spelled bytes = bytes_eq (without_trailing_blanks (fill 20 bytes)) bytes && is_reporter (fill 20 bytes)

-- whether a row is the key of a return, its reporter written without the blanks that fill it
abbrev pub is_reported_key : Row → Bool
is_reported_key row = has_key_form row && is_reporter_spelled (text_at 0 row) && is_return_number (whole_number_at 1 row)

-- whether rows are one, and that is right
abbrev pub is_one_right : (Row → Bool) → List Row → Bool
is_one_right is_right (row ∷ []) = is_right row
is_one_right is_right _ = false

-- whether a row is a key, and the one row that has it in a table is right
abbrev pub is_right_at : (Row → Bool) → (Row → Bool) → List Row → Row → Bool
is_right_at is_key is_right rows key = is_key key && is_one_right is_right (filter (has_key key) rows)

-- the same of the key of a transmission, by the rows of a database
abbrev pub is_sent_at : Trees → Row → Bool
is_sent_at db = is_right_at is_sent_key is_right_sent (rows_in layout.transmissions db)

-- the same of the key of a return
abbrev pub is_reported_at : Trees → Row → Bool
is_reported_at db = is_right_at is_reported_key is_right_return (rows_in layout.returns db)

-- each transmission of a database may stand in a book, and no key stands there twice
abbrev pub AreSent : Trees → Type 0
AreSent db = AreEntries is_right_sent is_transmission_row (rows_in layout.transmissions db)

-- so each return
abbrev pub AreReported : Trees → Type 0
AreReported db = AreEntries is_right_return is_return_row (rows_in layout.returns db)

-- so each end
abbrev pub AreStated : Trees → Type 0
AreStated db = AreEntries is_right_stated is_end_row (rows_in layout.segment_ends db)

-- these are the keys of the transmissions of a database, in any order
abbrev pub AreSentKeys : Trees → List TransmissionKey → Type 0
AreSentKeys db keys = IsPermutation keys (map transmission_key_of (rows_in layout.transmissions db))

-- the segment that a row of an end names, and its last number
abbrev pub last_stated : Row → SegmentKey × ℕ
last_stated row = (segment_key_of row, whole_number_at 2 row)

-- these are the segments and the last numbers of the ends of a database, in any order
abbrev pub AreLasts : Trees → List (SegmentKey × ℕ) → Type 0
AreLasts db lasts = IsPermutation lasts (map last_stated (rows_in layout.segment_ends db))

-- those of a list that are of a segment
abbrev pub lasts_of : SegmentKey → List (SegmentKey × ℕ) → List (SegmentKey × ℕ)
lasts_of key = filter (λ last. same_segment_key key last.0)

-- a segment and what a map has of it, as one pair or none
abbrev pub pair_of_some : SegmentKey → Option ℕ → List (SegmentKey × ℕ)
pair_of_some key (Some last) = (key, last) ∷ []
pair_of_some key None = []

-- a map has exactly these
abbrev pub HasLasts : List (SegmentKey × ℕ) → tree.BTreeMap SegmentKey ℕ → Type 0
HasLasts lasts ends = (key : SegmentKey) → lasts_of key lasts ≡ pair_of_some key (tree.get segment_cmp ends key)

-- no segment is there twice
abbrev pub AreOnce : List (SegmentKey × ℕ) → Type 0
AreOnce lasts = (key : SegmentKey) → length (lasts_of key lasts) ≤ 1

-- whether a number within a segment is not above the last one, where that is stated
abbrev pub is_up_to : Option ℕ → ℕ → Bool
is_up_to None sequence = true
is_up_to (Some last) sequence = nat_le sequence last

-- whether a transmission is not above the end of its segment
abbrev pub is_under : tree.BTreeMap SegmentKey ℕ → TransmissionKey → Bool
is_under ends key = is_up_to (tree.get segment_cmp ends (segment_key key.sender (segment_of key.number))) (sequence_of key.number)

-- each end of a database may stand in a book, and these are their segments and last numbers
pub record AreRightLasts (db : Trees) (lasts : List (SegmentKey × ℕ)) : Type 0 where
  pub right : AllByRecursion (λ row. is_right_stated row ≡ true) (rows_in layout.segment_ends db)
  pub these : AreLasts db lasts

-- a transmission is not above an end that is of its segment
abbrev pub IsUnder : TransmissionKey → SegmentKey × ℕ → Type 0
IsUnder key last = last.0 ≡ segment_key key.sender (segment_of key.number) → sequence_of key.number ≤ last.1

-- no segment has two ends, and no transmission is above the end of its segment
pub record AreUnder (keys : List TransmissionKey) (lasts : List (SegmentKey × ℕ)) : Type 0 where
  pub once : AreOnce lasts
  pub under : AllByRecursion (λ key. AllByRecursion (IsUnder key) lasts) keys
