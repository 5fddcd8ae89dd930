-- Readings of several queries in a transaction, and rows that are gone over one at a time.
use Rattle.std.specs.Prelude.{ℕ, suc, pos, ◌+◌, ◌^◌, ◌≤◌, ◌⊎◌, ◌≡◌, List, [], ◌∷◌, ◌++◌, length, fold, Result, IsTrue, IfErr, IfOk, OnOk, OnErr}
use Rattle.sqlite_value.specs.declared.value.Value.TheVariants.{Int, Text}
use Rattle.sqlite_value.specs.Order.{Row}
use Rattle.sqlite_trees.specs.Tree.{Trees}
use Rattle.sqlite.specs.State.{HasCleanDisk, IsRolledBack, IsUnchanged, KeepsCommit, State, Survives}
use Rattle.society_rows.specs.declared.fault.RowFault.{RowFault}
use Rattle.society_rows.specs.declared.fault.RowFault.TheVariants.{Damaged}
use Rattle.society_rows.specs.Effects.{ErrsByMedium, IsFailureOf}
use Rattle.society_rows.specs.Layout.{transmissions}
use Rattle.society_rows.specs.Reads.{Lists, has_key}
use Rattle.society_rows.specs.Stored.{HasLayout}

-- A reading of several queries in a transaction: over layout 3 it finds this, it changes nothing unless a failure undoes the transaction, it
-- commits nothing, and a crash leaves what it left before.
pub record ReadsInside {X : Type 0} (old new : State) (result : Result X RowFault) (Found : Trees → X → Type 0) : Type 0 where
  pub found : HasCleanDisk new → HasLayout old.now → IfOk result (Found old.now.trees)
  pub same : HasCleanDisk new → HasLayout old.now → OnOk result (IsUnchanged old new)
  pub whole : HasCleanDisk new → HasLayout old.now → OnErr result (IsUnchanged old new ⊎ IsRolledBack old new)
  pub inside : HasCleanDisk new → IsTrue old.in_transaction → OnOk result (IsTrue new.in_transaction)
  pub kept : HasCleanDisk new → IsTrue old.in_transaction → KeepsCommit old new
  pub survives : Survives old new (λ _. ⊥)

-- what it has become that went over the rows one after another
pub record HasTaken {F : Type 0} (step : F → Row → F) (Rows : List Row → Type 0) (old new : F) : Type 0 where
  pub rows : List Row
  pub these : Rows rows
  pub folded : new ≡ fold step old rows

-- the rows are those of this number and the next ones, each alone under its key
abbrev pub AreFrom : List ℕ → ℕ → Trees → List Row → Type 0
AreFrom sender number db [] = Unit {0}
AreFrom sender number db (row ∷ rows) = Lists transmissions (has_key (Text sender ∷ Int (pos number) ∷ [])) 2 db (row ∷ []) × AreFrom sender (suc number) db rows

-- the sender's transmissions of this number and the next ones, up to the first number that is not there
pub record IsRun (sender : List ℕ) (number : ℕ) (db : Trees) (rows : List Row) : Type 0 where
  pub each : AreFrom sender number db rows
  pub gap : Lists transmissions (has_key (Text sender ∷ Int (pos (length rows + number)) ∷ [])) 2 db []

-- a row is refused by what has gone over those before it
pub record RefusesRow {F : Type 0} (step : F → Row → F) (refusal : F → Row → RowFault → Type 0) (First : List Row → Type 0) (begun : F) (fault : RowFault) : Type 0 where
  pub before : List Row
  pub row : Row
  pub first : First (before ++ row ∷ [])
  pub refused : refusal (fold step begun before) row fault

-- the first of a run of the sender's transmissions
abbrev pub AreFirstOfRun : State → State → List ℕ → ℕ → List Row → Type 0
AreFirstOfRun old new sender number rows = HasCleanDisk new → HasLayout old.now → AreFrom sender number old.now.trees rows

-- behind these transmissions of a run, several stand under the next number
pub record AreDoubled (sender : List ℕ) (number : ℕ) (db : Trees) : Type 0 where
  pub before : List Row
  pub each : AreFrom sender number db before
  pub rows : List Row
  pub there : Lists transmissions (has_key (Text sender ∷ Int (pos (length before + number)) ∷ [])) 2 db rows
  pub several : 2 ≤ length rows

-- the run has a transmission under every number from this one on
pub record HasNoGap (sender : List ℕ) (number : ℕ) (db : Trees) : Type 0 where
  pub rows : List Row
  pub each : AreFrom sender number db rows
  pub full : length rows + number ≡ 2 ^ 32

-- the run has no gap at which each of its rows stands alone
abbrev pub IsNoRun : State → State → List ℕ → ℕ → Type 0
IsNoRun old new sender number = HasCleanDisk new → HasLayout old.now → AreDoubled sender number old.now.trees ⊎ HasNoGap sender number old.now.trees

-- an error says want of memory, or where the reading may fail, or that a row was refused or that there is no run
abbrev pub ErrsByRun : {X F : Type 0} → (F → Row → F) → (F → Row → RowFault → Type 0) → List ℕ → ℕ → F → State → State → Result X RowFault → Type 0
ErrsByRun step refusal sender number begun old new result =
    ErrsByMedium old new result ⊎ IfErr result (λ fault. RefusesRow step refusal (AreFirstOfRun old new sender number) begun fault ⊎ ((fault ≡ Damaged) × IsNoRun old new sender number))

-- why a run was not gone over up to its gap: a failure, a row was refused, several stand under a number, or no number is free
pub record StopsRun {F : Type 0} (step : F → Row → F) (refusal : F → Row → RowFault → Type 0) (old new : State) (sender : List ℕ) (number : ℕ) (begun : F) (fault : RowFault) : Type 0 where
  pub why : IsFailureOf old new fault ⊎ (RefusesRow step refusal (AreFirstOfRun old new sender number) begun fault ⊎ ((fault ≡ Damaged) × IsNoRun old new sender number))
