-- What an audit tells that writes nothing.
use Rattle.std.specs.Prelude.{ℕ, ◌≡◌, IfErr, IsTrue, OnOk, Result}
use Rattle.std.specs.Result.{IsErrAnd}
use Rattle.share_rules.specs.declared.office.Office.{Office}
use Rattle.sqlite.specs.Effect.{Database}
use Rattle.sqlite.specs.State.{HasCleanDisk, State, Survives}
use Rattle.sqlite_trees.specs.Tree.{Trees}
use Rattle.society_book.specs.Kept.{HoldsOwnBook}
use Rattle.society_rows.specs.Effects.{MayFail}
use Rattle.society_rows.specs.Layouts.{HasOlder, number_of}
use Rattle.society_rows.specs.NewBook.{IsBare}
use Rattle.society_rows.specs.Stored.{HasLayout}
use Rattle.society_rows.specs.declared.older.OlderLayout.{OlderLayout}
use Rattle.society_opening.specs.Existing.{IsSoundIn}
use Rattle.society_opening.specs.Older.{HoldsOlder}
use Rattle.society_opening.specs.Opening.{ShowsAs, TellsDatabase, TellsOfficeIn}
use Rattle.society_opening.specs.declared.open_fault.OpenFault.{OpenFault}
use Rattle.society_opening.specs.declared.open_fault.OpenFault.TheVariants as fault

-- Tables of a layout of a number were examined, or taken over, in a transaction, and all of it is undone: an answer says that this holds of
-- them, a fault why not, and a failure of the store is told only where the medium may have failed.
pub record Tries (Was : Database → Type 0) (number : ℕ) (office : Office) (Holds : Trees → Type 0) (old new : State) (result : Result (Unit {0}) OpenFault) : Type 0 where
  pub settled : IsTrue old.is_open → old.now ≡ old.committed
  pub sound : HasCleanDisk new → Was old.now → OnOk result ∥ Holds old.now.trees ∥₁
  pub was_open : HasCleanDisk new → IsTrue new.is_open → IsTrue old.is_open
  pub shown : HasCleanDisk new → ShowsAs old.committed new
  pub err : HasCleanDisk new → Was old.now → IfErr result (TellsOfficeIn number office old.now)
  pub damaged : HasCleanDisk new → Was old.now → IfErr result (λ e. e ≡ fault.Damaged → ¬ Holds old.now.trees)
  pub medium : HasCleanDisk new → Was old.now → IfErr result (λ e. e ≡ fault.Store → MayFail old new)
  pub survives : Survives old new (λ _. ⊥)

-- so tables of layout 3, which hold the book that they stand for
abbrev pub TriesNewest : Office → State → State → Result (Unit {0}) OpenFault → Type 0
TriesNewest office = Tries HasLayout 3 office (HoldsOwnBook office)

-- so older ones, which stand for some that do
abbrev pub TriesOver : Office → OlderLayout → State → State → Result (Unit {0}) OpenFault → Type 0
TriesOver office layout = Tries (HasOlder layout) (number_of layout) office (HoldsOlder office layout)

-- A database holds a sound book of the office, or the fault says what it has; either way it is shown as it was, and a crash leaves what it
-- left before. A failure of the store is told only where there may have been one.
pub record Audits (office : Office) (old new : State) (result : Result (Unit {0}) OpenFault) : Type 0 where
  pub sound : HasCleanDisk new → IsTrue old.is_open → OnOk result (IsSoundIn office old.committed)
  pub shown : HasCleanDisk new → ShowsAs old.committed new
  pub err : HasCleanDisk new → IsTrue old.is_open → IfErr result (TellsDatabase office old.committed)
  pub empty : IsTrue old.is_open → IsBare old.committed → IsErrAnd result (λ e. e ≡ fault.Empty)
  pub medium : HasCleanDisk new → IsTrue old.is_open → IfErr result (λ e. e ≡ fault.Store → MayFail old new)
  pub survives : Survives old new (λ _. ⊥)
