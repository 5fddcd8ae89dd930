-- Which rows of transmissions, of ends and of returns may stand in a book.
use Rattle.std.specs.Prelude.{None, ℕ, ◌≡◌, ◌≤◌, map, filter, Bool, true, false, ◌&&◌, ◌==◌, List, ◌++◌, length, pos, negsuc, zero, bytes_eq}
use Rattle.std.specs.List.{AllByRecursion}
use Rattle.sqlite_trees.specs.Tree.{Trees}
use Rattle.sqlite_value.specs.Order.{Row, column}
use Rattle.sqlite_value.specs.declared.value.Value.{Value}
use Rattle.sqlite_value.specs.declared.value.Value.TheVariants.{Blob, Int, Text}
use Rattle.society_core.specs.Book.{Book, is_end_entry, is_entry, is_return_entry}
use Rattle.society_core.specs.Ends.{number_past}
use Rattle.society_core.specs.Keys.{ascending, bytes_cmp}
use Rattle.society_rows.specs.Layout as layout
use Rattle.society_rows.specs.Stored.{rows_in}
use Rattle.society_book.specs.BookRows.{end_of, is_end_row, is_return_row, is_transmission_row, return_key_of}
use Rattle.society_book.specs.Columns.{blob_at, segment_place_at, text_at, whole_number_at}
use Rattle.society_book.specs.Sources.{HasTransmissions}
use Rattle.work_ids.specs.Blanks.{fill, without_trailing_blanks}

-- whether a value is a text
abbrev pub is_text : Value → Bool
is_text (Text bytes) = true
is_text _ = false

-- whether a value is a whole number from 0
abbrev pub is_count : Value → Bool
is_count (Int (pos n)) = true
is_count _ = false

-- whether a value is bytes
abbrev pub is_blob : Value → Bool
is_blob (Blob bytes) = true
is_blob _ = false

-- whether a value is that of a segment's column: -1 of the plain one, the year of any other
abbrev pub is_place : Value → Bool
is_place (Int (pos year)) = true
is_place (Int (negsuc zero)) = true
is_place _ = false

-- whether a row has a text, a whole number from 0 and bytes, and nothing else
abbrev pub has_body : Row → Bool
has_body row = length row == 3 && is_text (column row 0) && is_count (column row 1) && is_blob (column row 2)

-- whether a row is that of a transmission that may stand in a book
abbrev pub is_right_sent : Row → Bool
is_right_sent row = has_body row && is_entry (text_at 0 row) (whole_number_at 1 row) (blob_at 2 row)

-- whether a row has a text, a segment, a whole number from 0 and a segment, and nothing else
abbrev pub has_end : Row → Bool
has_end row = length row == 4 && is_text (column row 0) && is_place (column row 1) && is_count (column row 2) && is_place (column row 3)

-- whether a row is that of an end that may stand in a book
abbrev pub is_right_stated : Row → Bool
is_right_stated row = has_end row && is_end_entry (text_at 0 row) (segment_place_at 1 row) (end_of row)

-- no transmission that a database has of a book is above the end that a row states
abbrev pub IsAbove : Book → Row → Type 0
IsAbove book row = number_past book (text_at 0 row) (segment_place_at 1 row) (whole_number_at 2 row) ≡ None

-- whether a row is that of a return that may stand in a book, its reporter written without the blanks that fill it
abbrev pub is_right_return : Row → Bool
is_right_return row =
    has_body row && bytes_eq (without_trailing_blanks (fill 20 (text_at 0 row))) (text_at 0 row) && is_return_entry (return_key_of row) (blob_at 2 row)

-- each row of a table's may stand in a book, and no key stands there twice
pub record AreEntries {K : Type 0} (is_right : Row → Bool) (is_of : K → Row → Bool) (rows : List Row) : Type 0 where
  pub right : AllByRecursion (λ row. is_right row ≡ true) rows
  pub once : (key : K) → length (filter (is_of key) rows) ≤ 1

-- each end of a database is above all transmissions of its segment
abbrev pub AreEndsAbove : Trees → Type 0
AreEndsAbove db = (book : Book) → HasTransmissions book db → AllByRecursion (IsAbove book) (rows_in layout.segment_ends db)

-- the senders of the transmissions and of the ends of a database
abbrev pub senders_in : Trees → List (List ℕ)
senders_in db = map (text_at 0) (rows_in layout.transmissions db) ++ map (text_at 0) (rows_in layout.segment_ends db)

-- the transmissions, the ends and the returns of a database may stand in a book, and these are the senders, ascending, each once
pub record HoldsEntries (these : List (List ℕ)) (db : Trees) : Type 0 where
  pub transmissions : AreEntries is_right_sent is_transmission_row (rows_in layout.transmissions db)
  pub ends : AreEntries is_right_stated is_end_row (rows_in layout.segment_ends db)
  pub returns : AreEntries is_right_return is_return_row (rows_in layout.returns db)
  pub senders : these ≡ ascending bytes_cmp (senders_in db)
