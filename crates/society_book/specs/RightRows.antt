-- Rows of what senders sent and stated that may stand in a book, and what is that of no sound book.
use Rattle.std.specs.Prelude.{◌≡◌, true}
use Rattle.sqlite_trees.specs.Tree.{Trees}
use Rattle.sqlite_value.specs.Order.{Row}
use Rattle.society_core.specs.Book.{Book, IsSound, is_end_entry}
use Rattle.society_book.specs.BookRows.{end_of, end_row, segment_key_of}
use Rattle.society_book.specs.Columns.{segment_place_at, text_at}
use Rattle.society_book.specs.Sources.{KeepsSent}

-- the row is that of an end that may stand in a book
pub record IsRightStated (row : Row) : Type 0 where
  pub form : row ≡ end_row (segment_key_of row) (end_of row)
  pub entry : is_end_entry (text_at 0 row) (segment_place_at 1 row) (end_of row) ≡ true

-- what senders sent and stated is that of no sound book
abbrev pub KeepsUnsound : Trees → Type 0
KeepsUnsound db = (book : Book) → IsSound book → KeepsSent book db → ⊥
