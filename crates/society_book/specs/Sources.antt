-- What a run is read from: what the senders of a book sent; and what a pool is paid by: the bodies of a book, and what is derived of its works.
use Rattle.share_rules.specs.declared.office.Office.{Office}
use Rattle.sqlite_trees.specs.Tree.{Trees}
use Rattle.society_core.specs.Book.{Book, IsSound}
use Rattle.society_rows.specs.Layout as layout
use Rattle.society_rows.specs.Stored.{rows_in}
use Rattle.society_book.specs.BookRows.{end_rows, is_end_row, is_return_row, is_transmission_row, return_rows, transmission_rows}
use Rattle.society_book.specs.Columns.{HasRows}
use Rattle.society_book.specs.DerivedRows.{is_named, tells_recordings, tells_version, told_to_front}

-- a database has the transmissions of a book
abbrev pub HasTransmissions : Book → Trees → Type 0
HasTransmissions book db = HasRows is_transmission_row (transmission_rows book) (rows_in layout.transmissions db)

-- a database has the ends of segments of a book
abbrev pub HasEnds : Book → Trees → Type 0
HasEnds book db = HasRows is_end_row (end_rows book) (rows_in layout.segment_ends db)

-- a database has what the senders of a book sent: their transmissions, and the ends of their segments
pub record KeepsSent (book : Book) (db : Trees) : Type 0 where
  pub transmissions : HasTransmissions book db
  pub ends : HasEnds book db

-- an answer is that of every book whose transmissions a database has
abbrev pub BySent : {T : Type 0} → (Book → T → Type 0) → Trees → T → Type 0
BySent IsAnswer db x = (book : Book) → HasTransmissions book db → IsAnswer book x

-- the tables of transmissions and of returns have exactly the rows of a book
pub record KeepsBodies (book : Book) (db : Trees) : Type 0 where
  pub transmissions : HasTransmissions book db
  pub returns : HasRows is_return_row (return_rows book) (rows_in layout.returns db)

-- the tables of versions and of recordings have exactly the rows that are derived from a book
pub record DerivesWorks (office : Office) (book : Book) (db : Trees) : Type 0 where
  pub versions : HasRows is_named (told_to_front tells_version office book) (rows_in layout.versions db)
  pub recordings : HasRows is_named (told_to_front tells_recordings office book) (rows_in layout.recordings db)

-- the tables have what a pool is paid by: the transmissions, the returns, the versions and the recordings of a sound book
pub record HoldsWorks (office : Office) (book : Book) (db : Trees) : Type 0 where
  pub sound : IsSound book
  pub kept : KeepsBodies book db
  pub derived : DerivesWorks office book db
