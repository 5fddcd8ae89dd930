-- What tables have of a book from which not all has to be derived.
use Rattle.share_rules.specs.declared.office.Office.{Office}
use Rattle.sqlite_trees.specs.Tree.{Trees}
use Rattle.society_core.specs.Book.{Book, IsSound}
use Rattle.society_rows.specs.Layout as layout
use Rattle.society_rows.specs.Stored.{rows_in}
use Rattle.society_book.specs.BookRows.{AreOfBook}
use Rattle.society_book.specs.Columns.{HasRows}
use Rattle.society_book.specs.DerivedRows.{front_rows, is_named}

-- the tables have the own rows of a sound book
pub record HoldsOwn (book : Book) (db : Trees) : Type 0 where
  pub sound : IsSound book
  pub kept : AreOfBook book db

-- they have those of no book
abbrev pub LacksOwn : Trees → Type 0
LacksOwn db = (book : Book) → HoldsOwn book db → ⊥

-- the tables have the own rows of a sound book, and how far each sender came
pub record HoldsReached (office : Office) (book : Book) (db : Trees) : Type 0 where
  pub own : HoldsOwn book db
  pub fronts : HasRows is_named (front_rows office book) (rows_in layout.fronts db)

-- they have those of no book
abbrev pub LacksReached : Trees → Type 0
LacksReached db = (office : Office) (book : Book) → HoldsReached office book db → ⊥
