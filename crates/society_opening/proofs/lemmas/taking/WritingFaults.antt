-- What a failed write is told as.
use Rattle.std.proofs.Common.{◌≡◌, ◌≢◌, ◌∙◌, ◌≤◌, Bool, true, false, Result, Ok, Err, IfErr, cond, refl, sym}
use Rattle.std.specs.Result.{IsErrAnd}
use Rattle.sqlite.specs.State.{HasCleanDisk, State, Survives}
use Rattle.sqlite.specs.declared.error.Error.{Error}
use Rattle.sqlite_trees.specs.Tree.{Trees}
use Rattle.society_rows.specs.Effects.{FaultSays, MayFail}
use Rattle.society_rows.specs.Faults.{is_of_medium}
use Rattle.society_rows.specs.declared.fault.RowFault.{RowFault}
use Rattle.society_rows.specs.declared.fault.RowFault.TheVariants as row
use Rattle.society_book.proofs.lemmas.together.ErrLemmas.{says_on}
use Rattle.society_opening.specs.Opening.{IsOutside, open_fault_by}
use Rattle.society_opening.specs.declared.open_fault.OpenFault.{OpenFault}
use Rattle.society_opening.specs.declared.open_fault.OpenFault.TheVariants as fault
use Rattle.society_opening.proofs.lemmas.opened.Failing.{of_damage, of_memory}
use Rattle.society_opening.proofs.lemmas.opened.Passing.{IsAside}
use Rattle.book_derivation.specs.Writing.{writing_fault_by}

-- a fault of later statements
pub faults_on : (Wrong Later : Trees → Type 0) (old mid new : State) (r : Result (Unit {0}) RowFault) → Survives old mid (λ _. ⊥) → HasCleanDisk mid → mid.faults ≤ new.faults → (Later mid.now.trees → Wrong old.now.trees)
    → IfErr r (FaultSays Later mid new) → IfErr r (FaultSays Wrong old new)
faults_on Wrong Later old mid new (Ok x) first clean up also says = tt
faults_on Wrong Later old mid new (Err e) first clean up also says = says_on Wrong Later old mid new e first clean up also says

-- a failed write is told as the store's where the medium may have failed
pub told_writing : {May : Type 0} (f : RowFault) → (is_of_medium f ≡ true → May) → open_fault_by (writing_fault_by f) ≡ fault.Store → May
told_writing {May} f blamed err = by_fault f blamed err
  where
    by_case : (error : Error) (t : Bool) → (t ≡ true → May) → open_fault_by (cond t (row.Refused error) row.Memory) ≡ fault.Store → May
    by_case error true may is = may refl
    by_case error false may is = absurd (of_memory is)

    by_fault : (g : RowFault) → (is_of_medium g ≡ true → May) → open_fault_by (writing_fault_by g) ≡ fault.Store → May
    by_fault row.Memory may is = absurd (of_memory is)
    by_fault row.Schema may is = absurd (of_memory is)
    by_fault row.Damaged may is = absurd (of_memory is)
    by_fault row.Overflow may is = absurd (of_memory is)
    by_fault (row.Refused error) may is = by_case error (is_of_medium (row.Refused error)) may is

-- it says nothing of the rows
pub outside_writing : (f : RowFault) → IsOutside (open_fault_by (writing_fault_by f))
outside_writing row.Memory = tt
outside_writing row.Schema = tt
outside_writing row.Damaged = tt
outside_writing row.Overflow = tt
outside_writing (row.Refused error) = by_case (is_of_medium (row.Refused error))
  where
    by_case : (t : Bool) → IsOutside (open_fault_by (cond t (row.Refused error) row.Memory))
    by_case true = tt
    by_case false = tt

-- of tables that hold a book a fault says nothing
pub aside_by : (Held : Trees → Type 0) (old new : State) (f : RowFault) → FaultSays (λ db. Held db → ⊥) old new f → Held old.now.trees → IsAside f
aside_by Held old new row.Memory says held = tt
aside_by Held old new row.Schema says held = says held
aside_by Held old new row.Damaged says held = says held
aside_by Held old new row.Overflow says held = tt
aside_by Held old new (row.Refused error) says held = tt

-- a fault of an audit is told as the store's where the medium may have failed
pub store_of : (Wrong : Trees → Type 0) (old new : State) (f : RowFault) → FaultSays Wrong old new f → open_fault_by f ≡ fault.Store → MayFail old new
store_of Wrong old new row.Memory says err = absurd (of_memory err)
store_of Wrong old new row.Schema says err = absurd (of_damage err)
store_of Wrong old new row.Damaged says err = absurd (of_damage err)
store_of Wrong old new row.Overflow says err = absurd (of_memory err)
store_of Wrong old new (row.Refused error) says err = says

-- a fault that is handed on is told as the store's where it was
pub failed_by : (May : Type 0) (f : OpenFault) (r : Result (Unit {0}) OpenFault) → IsErrAnd r (λ e. e ≡ f) → (f ≡ fault.Store → May) → IfErr r (λ e. e ≡ fault.Store → May)
failed_by May f (Ok x) is may = tt
failed_by May f (Err e) is may = λ err. may (sym is ∙ err)

-- what is never told is told with anything
pub never_store : (May : Type 0) (r : Result (Unit {0}) OpenFault) → IfErr r (λ e. e ≢ fault.Store) → IfErr r (λ e. e ≡ fault.Store → May)
never_store May (Ok x) never = tt
never_store May (Err e) never = λ err. absurd (never err)
