-- Which databases hold a book with what is derived from it, and what a store over one shows of itself.
use Rattle.std.specs.Prelude.{ℕ, pos, ◌≡◌, ◌&&◌, IsTrue, [], ◌∷◌}
use Rattle.share_rules.specs.Office.{name_of}
use Rattle.share_rules.specs.declared.office.Office.{Office}
use Rattle.sqlite.specs.Effect.{Database}
use Rattle.sqlite.specs.State as connection
use Rattle.sqlite_value.specs.declared.value.Value.TheVariants.{Int, Text}
use Rattle.sqlite_value.specs.Order.{Row}
use Rattle.sqlite_trees.specs.Tree.{Trees}
use Rattle.society_core.specs.Book.{Book, IsSound}
use Rattle.society_core.specs.State.{State}
use Rattle.society_rows.specs.Layout as layout
use Rattle.society_rows.specs.Stored.{AreNumbered, HasLayout, rows_in}
use Rattle.society_book.specs.BookRows.{AreOfBook, book_of}
use Rattle.society_book.specs.DerivedRows.{AreDerived}

-- the row of an office: one, layout 3, society, territory, name (profile)
abbrev pub office_row : Office → Row
office_row office = Int (pos 1) ∷ Int (pos 3) ∷ Int (pos office.society) ∷ Int (pos office.territory) ∷ Text (name_of office) ∷ []

-- the tables hold this sound book of the office, exactly what is derived from it, and whole numbers as the rowids of what is put over
pub record HoldsBook (office : Office) (book : Book) (db : Trees) : Type 0 where
  pub registered : rows_in layout.office db ≡ office_row office ∷ []
  pub sound : IsSound book
  pub kept : AreOfBook book db
  pub derived : AreDerived office book db
  pub numbered : AreNumbered layout.fronts db × AreNumbered layout.balances db

-- the tables hold the book that they stand for
abbrev pub HoldsOwnBook : Office → Trees → Type 0
HoldsOwnBook office db = HoldsBook office (book_of db) db

-- the database has the tables of layout 3, and they hold a book of the office
pub record IsOfficeBook (office : Office) (db : Database) : Type 0 where
  pub layout : HasLayout db
  pub holds : HoldsOwnBook office db.trees

-- a connection at rest shows what the last commit left, and that holds a book of the office
pub record IsAtRest (office : Office) (s : connection.State) : Type 0 where
  pub same : s.now ≡ s.committed
  pub kept : IsOfficeBook office s.now

-- an open connection over a disk that told the truth is at rest
abbrev pub Rests : Office → connection.State → Type 0
Rests office s = IsTrue (s.is_clean && s.is_open) → IsAtRest office s

-- the books that a crash may leave; tables that hold no book leave every book, so none of them goes unseen
abbrev pub LeftBy : Office → connection.State → Book → Type 0
LeftBy office s book = (db : Trees) × s.may_leave db × (HoldsOwnBook office db → book ≡ book_of db)

-- what a store over a connection shows of itself
abbrev pub tables_state : Office → connection.State → ℕ → State
tables_state office s failures = record {
  office = office;
  book = book_of s.now.trees;
  failures = failures;
  faults = s.faults;
  is_clean = s.is_clean && s.is_open;
  is_honest = s.is_clean;
  left = LeftBy office s;
}

-- What a question does to a connection: it undoes its own transaction, so an open one shows the last commit, and a crash leaves
-- what it left before.
pub record AsksOf (old new : connection.State) : Type 0 where
  pub was_open : connection.HasCleanDisk new → IsTrue new.is_open → IsTrue old.is_open
  pub undone : connection.HasCleanDisk new → IsTrue new.is_open → (new.now ≡ old.committed) × (new.committed ≡ old.committed)
  pub survives : connection.Survives old new (λ _. ⊥)
