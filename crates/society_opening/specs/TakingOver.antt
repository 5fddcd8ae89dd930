-- The steps by which tables of an older layout become those of layout 3 (representation).
use Rattle.std.specs.Prelude.{ℕ, ◌≡◌, [], ◌∷◌, drop, take, Result, IfOk, IfErr, OnOk, IsTrue}
use Rattle.std.specs.List.{AllByRecursion}
use Rattle.share_rules.specs.declared.office.Office.{Office}
use Rattle.sqlite.specs.Effect.{Database}
use Rattle.sqlite.specs.State.{HasCleanDisk, KeepsCommit, State, Survives}
use Rattle.sqlite_trees.specs.Tree.{Trees}
use Rattle.society_core.specs.Book.{Book}
use Rattle.society_rows.specs.Layout.{all_tables, office as office_table}
use Rattle.society_rows.specs.Layouts.{HasOlder, number_of, tables_of}
use Rattle.society_rows.specs.Stored.{HasLayout, rows_in}
use Rattle.society_rows.specs.declared.older.OlderLayout.{OlderLayout}
use Rattle.society_rows.specs.declared.older.OlderLayout.TheVariants as older
use Rattle.society_book.specs.Kept.{HoldsBook, HoldsOwnBook}
use Rattle.society_opening.specs.Older.{HoldsOlder, Takes, office_row_under}
use Rattle.book_audit.specs.Audited.{IsRegistered}
use Rattle.society_rows.specs.Effects.{FaultSays}
use Rattle.society_rows.specs.declared.fault.RowFault.{RowFault}
use Rattle.book_derivation.specs.Deriving.{HasNoLines, HasNoMoney, HoldsUnderived}

-- Statements in a transaction: where the database was of a kind, an answer says this of it before and after; nothing is committed, and a
-- crash leaves what it left before.
pub record DoesOver {X E : Type 0} (Was : Database → Type 0) (old new : State) (result : Result X E) (Says : Database → Database → X → Type 0) : Type 0 where
  pub says : HasCleanDisk new → IsTrue old.in_transaction → Was old.now → IfOk result (Says old.now new.now)
  pub inside : HasCleanDisk new → IsTrue old.in_transaction → OnOk result (IsTrue new.in_transaction)
  pub kept : HasCleanDisk new → IsTrue old.in_transaction → KeepsCommit old new
  pub survives : Survives old new (λ _. ⊥)

-- what an older layout has, and what none has, is as it was
pub record KeepsOlder (layout : OlderLayout) (old new : Trees) : Type 0 where
  pub there : AllByRecursion (λ t. new t.tree ≡ old t.tree) (take (tables_of layout) all_tables)
  pub later : AllByRecursion (λ t. new t.tree ≡ old t.tree) (drop 12 all_tables)

-- what has to be derived yet of raised tables of a layout is not there: of layout 1 all of it, of layout 2 nothing
abbrev pub IsRaised : OlderLayout → Trees → Type 0
IsRaised older.First db = HasNoLines db × HasNoMoney db
IsRaised older.Second db = Unit {0}

-- raised tables can be completed to hold this book: of layout 1 they have its own rows and nothing that is derived, of layout 2 they hold it
abbrev pub CanComplete : Office → Book → OlderLayout → Trees → Type 0
CanComplete office book older.First = HoldsUnderived office book
CanComplete office book older.Second = HoldsBook office book

-- they can be completed to hold none
abbrev pub LacksRaised : Office → OlderLayout → Trees → Type 0
LacksRaised office layout db = (book : Book) → CanComplete office book layout db → ⊥

-- raised tables of this office are completed: what the older layout has is as it was, and they hold the book that they stand for
pub record CompletesRaised (office : Office) (layout : OlderLayout) (old new : Trees) : Type 0 where
  pub kept : KeepsOlder layout old new
  pub holds : IsRegistered office old → IsRaised layout old → HoldsOwnBook office new

-- tables of an older layout become those of layout 3 that they stand for
abbrev pub TakesIn : Office → OlderLayout → Database → Database → Unit {0} → Type 0
TakesIn office layout before after done = HasLayout after × Takes office layout before.trees after.trees

-- the rows of offices are the one row of this office under the layout of a number
abbrev pub IsNamed : Office → ℕ → Database → Type 0
IsNamed office number db = rows_in office_table db.trees ≡ office_row_under number office ∷ []

-- where they are this office's, they do
abbrev pub TakesNamed : Office → OlderLayout → Database → Database → Unit {0} → Type 0
TakesNamed office layout before after done = IsNamed office (number_of layout) before → TakesIn office layout before after done

-- the tables are those of this office under it, and as they were
abbrev pub IsOffice : Office → ℕ → Database → Database → Unit {0} → Type 0
IsOffice office number before after done = (after ≡ before) × IsNamed office number before

-- they are this office's, and become those of layout 3 that they stand for
abbrev pub TakesOffice : Office → OlderLayout → Database → Database → Unit {0} → Type 0
TakesOffice office layout before after done = IsNamed office (number_of layout) before × TakesIn office layout before after done

-- older tables stand for none that hold a book of the office
abbrev pub StandsForNone : Office → OlderLayout → Trees → Type 0
StandsForNone office layout db = HoldsOlder office layout db → ⊥

-- over an older layout a fault says why the tables are not taken over
abbrev pub FaultsOver : Office → OlderLayout → State → State → Result (Unit {0}) RowFault → Type 0
FaultsOver office layout old new result = HasCleanDisk new → IsTrue old.in_transaction → HasOlder layout old.now → IfErr result (FaultSays (StandsForNone office layout) old new)
