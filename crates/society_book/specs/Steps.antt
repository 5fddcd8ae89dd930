-- What several statements of one transaction do together (representation).
use Rattle.std.specs.Prelude.{◌≡◌, Result, IsTrue, IfOk, OnOk}
use Rattle.sqlite.specs.Effect.{Database}
use Rattle.sqlite.specs.State.{HasCleanDisk, KeepsCommit, State, Survives}
use Rattle.sqlite_trees.specs.Tree.{Trees}
use Rattle.society_rows.specs.Effects.{Errs}
use Rattle.society_rows.specs.Stored.{HasLayout}
use Rattle.society_rows.specs.declared.fault.RowFault.{RowFault}

-- Statements in a transaction: over layout 3 an answer says this of the database before and after, nothing is committed, and a crash
-- leaves what it left before.
pub record Does {X : Type 0} (old new : State) (result : Result X RowFault) (Says : Database → Database → X → Type 0) : Type 0 where
  pub says : HasCleanDisk new → IsTrue old.in_transaction → HasLayout old.now → IfOk result (Says old.now new.now)
  pub layout : HasCleanDisk new → IsTrue old.in_transaction → HasLayout old.now → OnOk result (HasLayout new.now)
  pub inside : HasCleanDisk new → IsTrue old.in_transaction → OnOk result (IsTrue new.in_transaction)
  pub kept : HasCleanDisk new → IsTrue old.in_transaction → KeepsCommit old new
  pub survives : Survives old new (λ _. ⊥)

-- statements of which an answer comes from an open connection alone
pub record DoesOpen {X : Type 0} (old new : State) (result : Result X RowFault) (Says : Database → Database → X → Type 0) : Type 0 where
  pub does : Does old new result Says
  pub answered : HasCleanDisk new → IsTrue old.in_transaction → OnOk result (IsTrue old.is_open)

-- readings whose answer comes from an open connection alone: the database is as it was, and its rows say this
abbrev pub LooksOpen : {X : Type 0} → State → State → Result X RowFault → (Trees → X → Type 0) → Type 0
LooksOpen old new result Says = DoesOpen old new result (λ before after x. (after ≡ before) × Says before.trees x)

-- what is made of the rows, whatever is answered
abbrev pub Makes : {X : Type 0} → (Trees → Trees → Type 0) → Database → Database → X → Type 0
Makes Change before after _ = Change before.trees after.trees

-- readings: the database is as it was, and its rows say this
abbrev pub Looks : {X : Type 0} → State → State → Result X RowFault → (Trees → X → Type 0) → Type 0
Looks old new result Says = Does old new result (λ before after x. (after ≡ before) × Says before.trees x)

-- Statements in a transaction that judge the rows: they do what is said of them, and a fault says why not.
pub record Judged {X : Type 0} (Wrong : Trees → Type 0) (old new : State) (result : Result X RowFault) (Says : Database → Database → X → Type 0) : Type 0 where
  pub does : Does old new result Says
  pub faults : Errs Wrong old new result

-- examinations: readings that judge the rows
abbrev pub Examines : {X : Type 0} → (Trees → Type 0) → State → State → Result X RowFault → (Trees → X → Type 0) → Type 0
Examines Wrong old new result Finds = Judged Wrong old new result (λ before after x. (after ≡ before) × Finds before.trees x)

-- nothing is wrong
abbrev pub Never : Trees → Type 0
Never db = ⊥
