-- What is left of the two files of an office's database, the database file and its log, once it is closed.
use Rattle.std.specs.Prelude.{◌≡◌, Result, Ok, Err}
use Rattle.sqlite.specs.Closing.{HoldsAlone}
use Rattle.sqlite.specs.Files.{FailsToClose, IsClosed, image_of}
use Rattle.sqlite.specs.Held.{Held}
use Rattle.sqlite_disk.specs.declared.Disk.{Ghosts}
use Rattle.sqlite_disk.specs.declared.Files.{Files}
use Rattle.sqlite_store.specs.declared.store.FileStore.{FileStore}
use Rattle.sqlite_store.specs.FileStore.{view}
use Rattle.sqlite_trees.specs.Tree.{Trees}
use Rattle.sqlite_trees.specs.View.{IsClean}
use Rattle.sqlite_wal.specs.Files.{outcomes}
use Rattle.sqlite_wal.specs.Reads.{AreClean}
use Rattle.sqlite_wal.specs.Recovery.{Image}
use Rattle.share_rules.specs.declared.office.Office.{Office}
use Rattle.society_core.specs.Book.{Book}
use Rattle.society_core.specs.State.{State}
use Rattle.society_book.specs.BookRows.{book_of}
use Rattle.society_opening.specs.Older.{HoldsOne}
use Rattle.society_commands.specs.declared.left.Left.{Left}
use Rattle.society_commands.specs.declared.left.Left.TheVariants.{Closed, Connection, Unclosed}

-- the database file alone, with no log, holds tables of the office with this book, as it reads now and after a crash
pub record HoldsBookAlone {D : Type 0} (g : Ghosts D) (office : Office) (book : Book) (files : Files D) : Type 0 where
  pub trees : Trees
  pub seen : HoldsAlone (image_of g files) trees
  pub left : (image : Image) → outcomes g files.log files.db image → HoldsAlone image trees
  pub holds : HoldsOne office trees
  pub same : book ≡ book_of trees

-- A store over files was closed: over files that told the truth its book is in the database file alone; or it was not, since the disk failed
-- or memory was refused, as the error says, and a crash leaves nothing that it could not leave before.
abbrev pub Closes : {D O S : Type 0} {g : Ghosts D} → (S → State) → (S → Held (FileStore D g)) → S → Left D O g → Type 0
Closes {g = g} state conn_of store (Closed files) = AreClean g files.log files.db → HoldsBookAlone g (state store).office (state store).book files
Closes state conn_of store (Unclosed error last) = IsClosed (conn_of store) last × (IsClean (view last) → FailsToClose (conn_of store) last error)
Closes state conn_of store _ = ⊥

-- what is left where a database was opened as an office's or was not: its store, closed, or the connection as it was left
abbrev pub HandsBack : {D O S : Type 0} {g : Ghosts D} → (S → State) → (S → Held (FileStore D g)) → Result S (Held (FileStore D g)) → Left D O g → Type 0
HandsBack state conn_of (Ok store) left = Closes state conn_of store left
HandsBack state conn_of (Err conn) left = left ≡ Connection conn
