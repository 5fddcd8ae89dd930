-- What a call within a transaction does, whatever table it is on.
use Rattle.std.specs.Prelude.{◌≡◌, ◌⊎◌, ℕ, List, Result, Ok, Err, IsTrue, true, false, IfErr, IsSome, OnOk, OnErr, MatchResult}
use Rattle.sqlite_disk.specs.Disk.{MoreFaults}
use Rattle.sqlite_value.specs.Order.{Row}
use Rattle.sqlite.specs.declared.error.Error.{Error}
use Rattle.sqlite.specs.Effect.{Database}
use Rattle.sqlite.specs.State.{State, HasCleanDisk, IsUnchanged, IsRolledBack, KeepsCommit, Survives, ExecutesInside}
use Rattle.society_rows.specs.declared.fault.RowFault.{RowFault}
use Rattle.society_rows.specs.declared.fault.RowFault.TheVariants as fault
use Rattle.society_rows.specs.declared.fault.RowFault.TheVariants.{Memory}
use Rattle.sqlite_trees.specs.Tree.{Trees}
use Rattle.society_rows.specs.Faults.{fault_of_error, is_of_medium, IsFailure}
use Rattle.society_rows.specs.Stored.{HasLayout}

-- over layout 3, and where the disk told the truth, the fault is such a failure
abbrev pub IsFailureOf : State → State → RowFault → Type 0
IsFailureOf old new fault = HasCleanDisk new → HasLayout old.now → IsFailure fault

-- where the database was of a kind and the disk told the truth, the call errs only by such a failure
abbrev pub OnlyFailsOver : {X : Type 0} → (Database → Type 0) → State → State → Result X RowFault → Type 0
OnlyFailsOver Was old new result = HasCleanDisk new → Was old.now → IfErr result IsFailure

-- the same over layout 3
abbrev pub OnlyFails : {X : Type 0} → State → State → Result X RowFault → Type 0
OnlyFails = OnlyFailsOver HasLayout

-- the same in a transaction
abbrev pub OnlyFailsInside : {X : Type 0} → (Database → Type 0) → State → State → Result X RowFault → Type 0
OnlyFailsInside Was old new result = IsTrue old.in_transaction → OnlyFailsOver Was old new result

-- why a reading may fail while the disk tells the truth: the medium failed meanwhile, or the connection was shut or has a limit of steps
abbrev pub MayFail : State → State → Type 0
MayFail old new = MoreFaults old.faults new.faults ⊎ ((old.is_open ≡ false) ⊎ IsSome old.step_limit)

-- where the database was of a kind and the disk told the truth, the reading errs by want of memory, or where it may fail
abbrev pub ErrsByMediumOver : {X : Type 0} → (Database → Type 0) → State → State → Result X RowFault → Type 0
ErrsByMediumOver Was old new result = HasCleanDisk new → Was old.now → IfErr result (λ fault. (fault ≡ Memory) ⊎ MayFail old new)

-- the same over layout 3
abbrev pub ErrsByMedium : {X : Type 0} → State → State → Result X RowFault → Type 0
ErrsByMedium = ErrsByMediumOver HasLayout

-- a fault that tells of the medium comes only where the medium may have failed
abbrev pub TellsOfMedium : {X : Type 0} → State → State → Result X RowFault → Type 0
TellsOfMedium old new result = IfErr result (λ fault. is_of_medium fault ≡ true → MayFail old new)

-- the same of a call in a transaction over a database of a kind, where the disk told the truth
abbrev pub BlamesMediumOver : {X : Type 0} → (Database → Type 0) → State → State → Result X RowFault → Type 0
BlamesMediumOver Was old new result = HasCleanDisk new → IsTrue old.in_transaction → Was old.now → TellsOfMedium old new result

-- the same over layout 3
abbrev pub BlamesMedium : {X : Type 0} → State → State → Result X RowFault → Type 0
BlamesMedium = BlamesMediumOver HasLayout

-- What a fault of readings says: want of memory, and a count that has no room, nothing; a failure that SQLite told that the medium may have
-- failed; a row that cannot be read, or a schema, that the rows are such.
abbrev pub FaultSays : (Trees → Type 0) → State → State → RowFault → Type 0
FaultSays Wrong old new fault.Memory = Unit {0}
FaultSays Wrong old new fault.Schema = Wrong old.now.trees
FaultSays Wrong old new fault.Damaged = Wrong old.now.trees
FaultSays Wrong old new fault.Overflow = Unit {0}
FaultSays Wrong old new (fault.Refused error) = MayFail old new

-- in a transaction over layout 3, and where the disk told the truth, an error says so
abbrev pub Errs : {X : Type 0} → (Trees → Type 0) → State → State → Result X RowFault → Type 0
Errs Wrong old new result = HasCleanDisk new → IsTrue old.in_transaction → HasLayout old.now → IfErr result (FaultSays Wrong old new)

-- the statement ran, or its error is told
abbrev pub RanAs : List ℕ → Row → State → State → Result (Unit {0}) RowFault → Type 0
RanAs text params old new (Ok _) = (count : ℕ) × ExecutesInside 0 text params old new (Ok count)
RanAs text params old new (Err fault) = (error : Error) × (fault ≡ fault_of_error error) × ExecutesInside 0 text params old new (Err error)

-- A write in a transaction: where the database was of a kind it makes this change, it commits nothing, and a crash leaves what it
-- left before.
pub record WritesOver {X : Type 0} (Was : Database → Type 0) (old new : State) (result : Result X RowFault) (Change : Database → Database → Type 0) : Type 0 where
  pub change : HasCleanDisk new → IsTrue old.in_transaction → Was old.now → OnOk result (Change old.now new.now)
  pub inside : HasCleanDisk new → IsTrue old.in_transaction → OnOk result (IsTrue new.in_transaction)
  pub kept : HasCleanDisk new → IsTrue old.in_transaction → KeepsCommit old new
  pub survives : Survives old new (λ _. ⊥)

-- the same over layout 3
abbrev pub Writes : {X : Type 0} → State → State → Result X RowFault → (Database → Database → Type 0) → Type 0
Writes = WritesOver HasLayout

-- one statement: it went through on an open connection, or it changed nothing, or the whole transaction is undone
abbrev pub IsAllOrNothing : {X : Type 0} → State → State → Result X RowFault → Type 0
IsAllOrNothing old new result = HasCleanDisk new → IsTrue old.in_transaction → MatchResult result (λ _. IsTrue old.is_open) (λ _. IsUnchanged old new ⊎ IsRolledBack old new)

-- after an error of one statement nothing is changed, or the whole transaction is undone
abbrev pub FailsWhole : {X : Type 0} → State → State → Result X RowFault → Type 0
FailsWhole old new result = HasCleanDisk new → IsTrue old.in_transaction → OnErr result (IsUnchanged old new ⊎ IsRolledBack old new)

-- the transaction is over, and the last commit is what it was
pub record IsUndone (old new : State) : Type 0 where
  pub ended : new.in_transaction ≡ false
  pub back : IsTrue new.is_open → (new.now ≡ old.committed) × (new.committed ≡ old.committed)

-- after an error of several statements: so many of the first went through and nothing else did, or the whole transaction is undone
abbrev pub LeavesFirst : {X : Type 0} → State → State → Result X RowFault → (ℕ → Database → Database → Type 0) → Type 0
LeavesFirst old new result First = HasCleanDisk new → IsTrue old.in_transaction → HasLayout old.now → OnErr result (((count : ℕ) × First count old.now new.now) ⊎ IsUndone old new)
