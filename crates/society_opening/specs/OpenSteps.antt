-- What the steps of an opening find, and which rows pass them (representation).
use Rattle.std.specs.Prelude.{ℕ, IfErr, IsTrue, Result, ◌≡◌, OnErr, OnOk}
use Rattle.share_rules.specs.declared.office.Office.{Office}
use Rattle.sqlite.specs.Effect.{Database}
use Rattle.sqlite.specs.State.{HasCleanDisk, State, Survives}
use Rattle.sqlite_trees.specs.Tree.{Trees}
use Rattle.society_rows.specs.Effects.{MayFail}
use Rattle.society_rows.specs.Layouts.{HasOlder, number_of}
use Rattle.society_rows.specs.Stored.{HasLayout}
use Rattle.society_rows.specs.declared.older.OlderLayout.{OlderLayout}
use Rattle.society_opening.specs.Older.{HoldsOne, IsTakenOver, HoldsOlder, Takes}
use Rattle.society_opening.specs.Opening.{IsOpenable, ShowsAs, TellsDatabase, TellsOfficeIn}
use Rattle.society_opening.specs.declared.open_fault.OpenFault.{OpenFault}
use Rattle.society_opening.specs.declared.open_fault.OpenFault.TheVariants as fault
use Rattle.society_opening.specs.TakingOver.{TakesOffice}

-- of layout 3, what was committed holds a sound book of the office, and is shown as it was
abbrev pub AuditsOffice : Office → State → State → Type 0
AuditsOffice office old new = HasCleanDisk new → IsTrue old.is_open → HasLayout old.committed → HoldsOne office old.committed.trees × ShowsAs old.committed new

-- what was committed of an older layout is taken over
abbrev pub TakesCommitted : Office → State → State → Type 0
TakesCommitted office old new =
    HasCleanDisk new → IsTrue old.is_open → (layout : OlderLayout) → HasOlder layout old.committed → IsTakenOver office layout old.committed new

-- what was committed had no table, or those of a layout
abbrev pub WasOpenable : State → State → Type 0
WasOpenable old new = HasCleanDisk new → IsTrue old.is_open → IsOpenable old.committed

-- a fault says this of what was committed
abbrev pub TellsCommitted : Office → OpenFault → State → State → Type 0
TellsCommitted office fault old new = HasCleanDisk new → IsTrue old.is_open → TellsDatabase office old.committed fault

-- the connection shows what was committed, if it is open
abbrev pub ShowsCommitted : State → State → Type 0
ShowsCommitted old new = HasCleanDisk new → ShowsAs old.committed new

-- in a transaction over such tables a fault says this of the rows of the office
abbrev pub TellsIn : (Database → Type 0) → ℕ → Office → State → State → Result (Unit {0}) OpenFault → Type 0
TellsIn Was number office old new result = HasCleanDisk new → IsTrue old.in_transaction → Was old.now → IfErr result (TellsOfficeIn number office old.now)

-- damage is told where this does not hold of the tables
abbrev pub DeniesIn : (Database → Type 0) → (Trees → Type 0) → State → State → Result (Unit {0}) OpenFault → Type 0
DeniesIn Was Holds old new result = HasCleanDisk new → IsTrue old.in_transaction → Was old.now → IfErr result (λ e. e ≡ fault.Damaged → ¬ Holds old.now.trees)

-- over such tables the store's fault comes only where the medium may have failed
abbrev pub FailsTaking : (Database → Type 0) → State → State → Result (Unit {0}) OpenFault → Type 0
FailsTaking Was old new result = HasCleanDisk new → Was old.now → IfErr result (λ e. e ≡ fault.Store → MayFail old new)

-- the same in a transaction
abbrev pub FailsIn : (Database → Type 0) → State → State → Result (Unit {0}) OpenFault → Type 0
FailsIn Was old new result = IsTrue old.in_transaction → FailsTaking Was old new result

-- the tables of an older layout are this office's and are taken over, or the database is left as it is, and the fault says why
pub record TakesOver (office : Office) (layout : OlderLayout) (old new : State) (result : Result (Unit {0}) OpenFault) : Type 0 where
  pub settled : IsTrue old.is_open → old.now ≡ old.committed
  pub taken : HasCleanDisk new → HasOlder layout old.now → OnOk result (TakesOffice office layout old.now new.now tt × (new.now ≡ new.committed))
  pub neither : HasCleanDisk new → OnErr result (ShowsAs old.committed new)
  pub err : HasCleanDisk new → HasOlder layout old.now → IfErr result (TellsOfficeIn (number_of layout) office old.now)
  pub damaged : HasCleanDisk new → HasOlder layout old.now → IfErr result (λ e. e ≡ fault.Damaged → ¬ HoldsOlder office layout old.now.trees)
  pub survives : Survives old new (λ db. HasOlder layout old.now → Takes office layout old.now.trees db)
