-- What errors blame, one call after another.
use Rattle.std.proofs.Common.{◌≡◌, Bool, List, ℕ, Result, Ok, Err, IfErr, filter, subst, sym}
use Rattle.std.specs.List.{AllByRecursion}
use Rattle.std.specs.Result.{IsErrAnd}
use Rattle.sqlite.specs.State.{State}
use Rattle.sqlite_schema.specs.declared.schema.Table.{Table}
use Rattle.sqlite_trees.proofs.ListLemmas.{all-filter, all-permutation}
use Rattle.sqlite_trees.specs.Tree.{Trees}
use Rattle.sqlite_value.specs.Order.{Row}
use Rattle.society_book.proofs.lemmas.together.ErrLemmas.{errs_on, errs_then}
use Rattle.society_book.proofs.lemmas.together.StepLemmas.{does_not, looks_then}
use Rattle.society_book.specs.Steps.{Looks}
use Rattle.society_rows.specs.Effects.{Errs, FaultSays}
use Rattle.society_rows.specs.Reads.{Lists}
use Rattle.society_rows.specs.Stored.{rows_in}
use Rattle.society_rows.specs.declared.fault.RowFault.{RowFault}
use Rattle.society_rows.specs.declared.fault.RowFault.TheVariants as row

-- want of memory blames no readings
pub errs_memory : {X : Type 0} (Wrong : Trees → Type 0) (old new : State) (r : Result X RowFault) → IsErrAnd r (λ e. e ≡ row.Memory) → Errs Wrong old new r
errs_memory Wrong old new (Ok x) is clean inside has = tt
errs_memory Wrong old new (Err e) is clean inside has = subst (FaultSays Wrong old new) (sym is) tt

-- an error of a later reading that is handed on
pub errs_passed : (X : Type 0) {W Y : Type 0} (Later Wrong : Trees → Type 0) (old mid new : State) (x : W) (fault : RowFault) (r : Result Y RowFault) (A : Trees → W → Type 0) (B : Trees → X → Type 0) →
    Looks old mid (Ok x) A → Looks {X = X} mid new (Err fault) B → Errs {X = X} Later mid new (Err fault) → IsErrAnd r (λ e. e ≡ fault) → (A old.now.trees x → Later old.now.trees → Wrong old.now.trees) → Errs Wrong old new r
errs_passed X Later Wrong old mid new x fault r A B first second errs is denies =
    errs_on X Wrong Wrong old new fault r (errs_then {Y = X} Later Wrong old mid new x (Err fault) A first second.survives errs denies) is (λ h. h)

-- a later reading that failed
pub looks_failed : (X : Type 0) {W Y : Type 0} (old mid new : State) (x : W) (fault : RowFault) (r : Result Y RowFault) (A : Trees → W → Type 0) (B : Trees → X → Type 0) (C : Trees → Y → Type 0) →
    Looks old mid (Ok x) A → Looks {X = X} mid new (Err fault) B → IsErrAnd r (λ e. e ≡ fault) → Looks old new r C
looks_failed X old mid new x fault (Ok y) A B C first second is = absurd is
looks_failed X old mid new x fault (Err e) A B C first second is =
    does_not {X = X} old new e fault (λ before after _. (after ≡ before) × Unit {0}) (λ before after y. (after ≡ before) × C before.trees y) (looks_then {Y = X} old mid new x (Err fault) A B (λ _ _. Unit {0}) first second (λ y one two. tt))

-- what holds of each row of a table holds of those that are listed
pub listed_hold : (P : Row → Type 0) (table : Table) (passes : Row → Bool) (width : ℕ) (db : Trees) (found shown : List Row) → Lists table passes width db found → shown ≡ found → AllByRecursion P (rows_in table db) → AllByRecursion P shown
listed_hold P table passes width db found shown lists same all =
    subst (AllByRecursion P) (sym same) (all-permutation P (filter passes (rows_in table db)) found lists.rows (all-filter P passes (rows_in table db) all))
