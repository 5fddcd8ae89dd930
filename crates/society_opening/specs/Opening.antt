-- How a database is opened as an office's tables.
use Rattle.std.specs.Prelude.{◌≡◌, ◌≢◌, ◌⊎◌, ℕ, List, [], ◌∷◌, Result, IsTrue, OnOk, OnErr, IfErr}
use Rattle.share_rules.specs.declared.office.Office.{Office}
use Rattle.sqlite_trees.specs.Tree.{Trees}
use Rattle.sqlite.specs.Effect.{Database}
use Rattle.sqlite.specs.State as connection
use Rattle.sqlite_value.specs.Order.{Row}
use Rattle.society_rows.specs.Effects.{MayFail}
use Rattle.society_rows.specs.Forms.{IsOfForms, office_forms_under}
use Rattle.society_rows.specs.Layout as layout
use Rattle.society_rows.specs.Layouts.{HasOlder, number_of}
use Rattle.society_rows.specs.NewBook.{IsBare, IsNewBook}
use Rattle.society_rows.specs.Stored.{HasLayout, rows_in}
use Rattle.society_rows.specs.declared.older.OlderLayout.{OlderLayout}
use Rattle.society_core.specs.Book.{empty_book}
use Rattle.society_book.specs.BookRows.{book_of}
use Rattle.society_book.specs.Kept.{HoldsOwnBook, Rests, office_row}
use Rattle.society_opening.specs.Older.{HoldsOlder, HoldsOne, IsTakenOver, Takes, office_row_under}
use Rattle.society_rows.specs.declared.fault.RowFault.{RowFault}
use Rattle.society_rows.specs.declared.fault.RowFault.TheVariants as row
use Rattle.society_opening.specs.declared.open_fault.OpenFault.{OpenFault}
use Rattle.society_opening.specs.declared.open_fault.OpenFault.TheVariants as fault

-- why a database is not opened whose rows do not pass: a count that has no room is told as want of memory
abbrev pub open_fault_by : RowFault → OpenFault
open_fault_by row.Memory = fault.Memory
open_fault_by row.Schema = fault.Damaged
open_fault_by row.Damaged = fault.Damaged
open_fault_by row.Overflow = fault.Memory
open_fault_by (row.Refused error) = fault.Store

-- one office is told of, by a row that can be read under that layout
abbrev pub IsOneOffice : ℕ → List Row → Type 0
IsOneOffice layout [] = ⊥
IsOneOffice layout (row ∷ []) = IsOfForms (office_forms_under layout) row
IsOneOffice layout (row ∷ other ∷ rows) = ⊥

-- what a fault says of the rows of offices under a layout: that no office can be read, that it is another, or that it is this one; where
-- there are such rows none says `Empty`, nor `Log`, which is said before a database is opened
abbrev pub TellsOffice : ℕ → Office → List Row → OpenFault → Type 0
TellsOffice layout office rows fault.Memory = Unit {0}
TellsOffice layout office rows fault.Store = Unit {0}
TellsOffice layout office rows fault.Empty = ⊥
TellsOffice layout office rows fault.Schema = ¬ IsOneOffice layout rows
TellsOffice layout office rows fault.OtherOffice = IsOneOffice layout rows × (rows ≢ office_row_under layout office ∷ [])
TellsOffice layout office rows fault.Damaged = rows ≡ office_row_under layout office ∷ []
TellsOffice layout office rows fault.Log = ⊥

-- so it says of the rows that a database has
abbrev pub TellsOfficeIn : ℕ → Office → Database → OpenFault → Type 0
TellsOfficeIn number office db = TellsOffice number office (rows_in layout.office db.trees)

-- the tables are those of layout 3 of this office, and they hold no sound book with exactly what is derived from it
abbrev pub IsDamaged : Office → Database → Type 0
IsDamaged office db = HasLayout db × TellsOfficeIn 3 office db fault.Damaged × (¬ HoldsOwnBook office db.trees)

-- they are those of an older layout of this office, and stand for no tables that hold such a book
abbrev pub IsDamagedOlder : Office → OlderLayout → Database → Type 0
IsDamagedOlder office layout db = HasOlder layout db × TellsOfficeIn (number_of layout) office db fault.Damaged × (¬ HoldsOlder office layout db.trees)

-- What a fault says of a database: `Empty` that it has no table; `Schema` that it has tables, and not those of a layout with an
-- office that can be read under it; `OtherOffice` that it has those of another office; `Damaged` that it has those of this office, and
-- they hold no sound book with exactly what is derived from it, or, of an older layout, stand for no tables that do.
abbrev pub TellsDatabase : Office → Database → OpenFault → Type 0
TellsDatabase office db fault.Memory = Unit {0}
TellsDatabase office db fault.Store = Unit {0}
TellsDatabase office db fault.Empty = IsBare db
TellsDatabase office db fault.Schema =
    (¬ IsBare db) × (HasLayout db → TellsOfficeIn 3 office db fault.Schema)
    × ((layout : OlderLayout) → HasOlder layout db → TellsOfficeIn (number_of layout) office db fault.Schema)
TellsDatabase office db fault.OtherOffice =
    (HasLayout db × TellsOfficeIn 3 office db fault.OtherOffice)
    ⊎ ((layout : OlderLayout) × HasOlder layout db × TellsOfficeIn (number_of layout) office db fault.OtherOffice)
TellsDatabase office db fault.Damaged = IsDamaged office db ⊎ ((layout : OlderLayout) × IsDamagedOlder office layout db)
TellsDatabase office db fault.Log = ⊥

-- a fault that says nothing of what the database has: memory was refused, or the database failed
abbrev pub IsOutside : OpenFault → Type 0
IsOutside fault.Memory = Unit {0}
IsOutside fault.Store = Unit {0}
IsOutside _ = ⊥

-- an open connection shows this, and it is what the last commit left
abbrev pub ShowsAs : Database → connection.State → Type 0
ShowsAs db s = IsTrue s.is_open → (s.now ≡ db) × (s.committed ≡ db)

-- the database has the tables of a layout, and nothing else
abbrev pub HasAnyLayout : Database → Type 0
HasAnyLayout db = HasLayout db ⊎ ((layout : OlderLayout) × HasOlder layout db)

-- the database has no table, or those of a layout
abbrev pub IsOpenable : Database → Type 0
IsOpenable db = IsBare db ⊎ HasAnyLayout db

-- where the database had the tables of an older layout, a crash may leave those that it was taken over into
abbrev pub IsLeftTaken : Office → Database → Trees → Type 0
IsLeftTaken office old db = (layout : OlderLayout) × HasOlder layout old × Takes office layout old.trees db

-- where the database had no table, a crash may leave the new book of the office
abbrev pub IsLeftBegun : Office → Database → Trees → Type 0
IsLeftBegun office old db = IsBare old × IsNewBook (office_row office) db

-- a crash leaves what it left before, or, only where the database had no table or was of an older layout, the whole of what becomes of it
abbrev pub SurvivesOpening : Office → connection.State → connection.State → Type 0
SurvivesOpening office old new = connection.Survives old new (λ db. IsLeftBegun office old.now db ⊎ IsLeftTaken office old.now db)

-- A database becomes an office's tables or is left as it is: one that had no table begins an empty book, one of layout 3 held a sound
-- book with what is derived from it and is shown as it was, one of an older layout is taken over, a fault says what the database has,
-- a failure of the store is told only where there may have been one, and a crash leaves what it left before or the whole of what becomes of it.
pub record Opens (office : Office) (old new : connection.State) (result : Result (Unit {0}) OpenFault) : Type 0 where
  pub rests : OnOk result ∥ Rests office new ∥₁
  pub begun : connection.HasCleanDisk new → IsTrue old.is_open → IsBare old.committed → OnOk result (book_of new.now.trees ≡ empty_book)
  pub audited : connection.HasCleanDisk new → IsTrue old.is_open → HasLayout old.committed → OnOk result (HoldsOne office old.committed.trees × ShowsAs old.committed new)
  pub taken : connection.HasCleanDisk new → IsTrue old.is_open → (layout : OlderLayout) → HasOlder layout old.committed → OnOk result (IsTakenOver office layout old.committed new)
  pub known : connection.HasCleanDisk new → IsTrue old.is_open → OnOk result (IsOpenable old.committed)
  pub unchanged : connection.HasCleanDisk new → OnErr result (ShowsAs old.committed new)
  pub err : connection.HasCleanDisk new → IsTrue old.is_open → IfErr result (TellsDatabase office old.committed)
  pub medium : connection.HasCleanDisk new → IsTrue old.is_open → IfErr result (λ e. e ≡ fault.Store → MayFail old new)
  pub crash : SurvivesOpening office old new
