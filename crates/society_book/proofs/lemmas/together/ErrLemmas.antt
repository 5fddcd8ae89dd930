-- What errors of readings say, one reading after another.
use Rattle.std.proofs.Common.{◌≡◌, ◌⊎◌, ◌≤◌, Result, Ok, Err, IfErr, IfOk, inl, inr, subst, sym}
use Rattle.std.specs.Result.{IsErrAnd}
use Rattle.sqlite.specs.Effect.{Database}
use Rattle.sqlite.specs.State.{HasCleanDisk, State, Survives}
use Rattle.sqlite_trees.specs.Tree.{Trees}
use Rattle.society_rows.specs.Effects.{Errs, ErrsByMedium, FaultSays, MayFail, OnlyFails}
use Rattle.society_rows.specs.Faults.{IsFailure}
use Rattle.society_rows.specs.Stored.{HasLayout}
use Rattle.society_rows.specs.declared.fault.RowFault.{RowFault}
use Rattle.society_rows.specs.declared.fault.RowFault.TheVariants as row
use Rattle.society_rows.proofs.lemmas.errors.Blamed.{may_on}
use Rattle.society_book.proofs.lemmas.together.StepLemmas.{was_clean}
use Rattle.society_book.specs.Errors.{Blames}
use Rattle.society_book.specs.Steps.{Looks}
use Rattle.sqlite.specs.declared.error.Error.TheVariants.{SqliteFailure}

-- what a statement tells of an error
pub errs_of : {X : Type 0} (Wrong : Trees → Type 0) (old new : State) (r : Result X RowFault) → OnlyFails old new r → ErrsByMedium old new r → Errs Wrong old new r
errs_of Wrong old new (Ok x) told medium clean inside has = tt
errs_of Wrong old new (Err fault) told medium clean inside has = by_fault fault (told clean has) (medium clean has)
  where
    by_fault : (f : RowFault) → IsFailure f → (f ≡ row.Memory) ⊎ MayFail old new → FaultSays Wrong old new f
    by_fault row.Memory fails may = tt
    by_fault row.Schema (inl is) may = absurd (let no : row.Schema ≡ row.Memory → ⊥ = λ e. cc in no is)
    by_fault row.Schema (inr is) may = absurd (let no : row.Schema ≡ row.Refused (SqliteFailure is.0) → ⊥ = λ e. cc in no is.1)
    by_fault row.Damaged (inl is) may = absurd (let no : row.Damaged ≡ row.Memory → ⊥ = λ e. cc in no is)
    by_fault row.Damaged (inr is) may = absurd (let no : row.Damaged ≡ row.Refused (SqliteFailure is.0) → ⊥ = λ e. cc in no is.1)
    by_fault row.Overflow fails may = tt
    by_fault (row.Refused error) fails (inl is) = absurd (let no : row.Refused error ≡ row.Memory → ⊥ = λ e. cc in no is)
    by_fault (row.Refused error) fails (inr may) = may

-- a fault of later statements
pub says_on : (Wrong Later : Trees → Type 0) (old mid new : State) (fault : RowFault) → Survives old mid (λ _. ⊥) → HasCleanDisk mid → mid.faults ≤ new.faults → (Later mid.now.trees → Wrong old.now.trees) → FaultSays Later mid new fault → FaultSays Wrong old new fault
says_on Wrong Later old mid new row.Memory first clean up also says = tt
says_on Wrong Later old mid new row.Schema first clean up also says = also says
says_on Wrong Later old mid new row.Damaged first clean up also says = also says
says_on Wrong Later old mid new row.Overflow first clean up also says = tt
says_on Wrong Later old mid new (row.Refused error) first clean up also says = may_on old mid new first clean up says

-- a fault that says more
says_where : (Wrong First : Trees → Type 0) (old new : State) (fault : RowFault) → (First old.now.trees → Wrong old.now.trees) → FaultSays First old new fault → FaultSays Wrong old new fault
says_where Wrong First old new row.Memory also says = tt
says_where Wrong First old new row.Schema also says = also says
says_where Wrong First old new row.Damaged also says = also says
says_where Wrong First old new row.Overflow also says = tt
says_where Wrong First old new (row.Refused error) also says = says

-- one of what is worked out
pub says_judged : (Wrong : Trees → Type 0) (old new : State) (fault : RowFault) → Blames (Wrong old.now.trees) fault → FaultSays Wrong old new fault
says_judged Wrong old new row.Memory blames = tt
says_judged Wrong old new row.Schema blames = blames
says_judged Wrong old new row.Damaged blames = blames
says_judged Wrong old new row.Overflow blames = tt
says_judged Wrong old new (row.Refused error) blames = absurd blames

-- a fault that blames more
pub blames_more : (First Wrong : Type 0) (fault : RowFault) → (First → Wrong) → Blames First fault → Blames Wrong fault
blames_more First Wrong row.Memory also blames = tt
blames_more First Wrong row.Schema also blames = also blames
blames_more First Wrong row.Damaged also blames = also blames
blames_more First Wrong row.Overflow also blames = tt
blames_more First Wrong (row.Refused error) also blames = blames

-- so of an answer
pub blames_where : {X : Type 0} (First Wrong : Type 0) (r : Result X RowFault) → IfErr r (Blames First) → (First → Wrong) → IfErr r (Blames Wrong)
blames_where First Wrong (Ok x) blames also = tt
blames_where First Wrong (Err fault) blames also = blames_more First Wrong fault also blames

-- so of a fault that is handed on
pub blames_on : {X : Type 0} (r : Result X RowFault) (fault : RowFault) (First Wrong : Type 0) → IsErrAnd r (λ e. e ≡ fault) → Blames First fault → (First → Wrong) → IfErr r (Blames Wrong)
blames_on (Ok x) fault First Wrong is blames also = tt
blames_on (Err e) fault First Wrong is blames also = subst (Blames Wrong) (sym is) (blames_more First Wrong fault also blames)

-- want of memory blames nothing
pub blames_memory : {X : Type 0} (P : Type 0) (r : Result X RowFault) → IsErrAnd r (λ e. e ≡ row.Memory) → IfErr r (Blames P)
blames_memory P (Ok x) is = tt
blames_memory P (Err e) is = subst (Blames P) (sym is) tt

-- what failed has no answer
pub no_answer : {X : Type 0} (r : Result X RowFault) (P : RowFault → Type 0) (Says : X → Type 0) → IsErrAnd r P → IfOk r Says
no_answer (Ok x) P Says is = absurd is
no_answer (Err e) P Says is = tt

-- an error of a reading after others: what it blames is wrong by what these found
pub errs_then : {X Y : Type 0} (Later Wrong : Trees → Type 0) (old mid new : State) (x : X) (r : Result Y RowFault) (A : Trees → X → Type 0) → Looks old mid (Ok x) A → Survives mid new (λ _. ⊥) → Errs Later mid new r → (A old.now.trees x → Later old.now.trees → Wrong old.now.trees) → Errs Wrong old new r
errs_then {X} {Y} Later Wrong old mid new x r A first survives errs denies clean inside has =
    let one = first.says (was clean) inside has in
    on r clean one (errs clean (first.inside (was clean) inside) (subst HasLayout (sym one.0) has))
  where
    was : HasCleanDisk new → HasCleanDisk mid
    was = was_clean mid new survives

    on : (z : Result Y RowFault) → HasCleanDisk new → (mid.now ≡ old.now) × A old.now.trees x → IfErr z (FaultSays Later mid new) → IfErr z (FaultSays Wrong old new)
    on (Ok y) clean one h = tt
    on (Err e) clean one h = says_on Wrong Later old mid new e first.survives (was clean) survives.counts (λ wrong. denies one.1 (subst (λ (db : Database). Later db.trees) one.0 wrong)) h

-- an error that is handed on
pub errs_on : (X : Type 0) {Y : Type 0} (First Wrong : Trees → Type 0) (old new : State) (fault : RowFault) (r : Result Y RowFault) → Errs {X = X} First old new (Err fault) → IsErrAnd r (λ e. e ≡ fault) → (First old.now.trees → Wrong old.now.trees) → Errs Wrong old new r
errs_on X First Wrong old new fault (Ok y) errs is also clean inside has = tt
errs_on X First Wrong old new fault (Err e) errs is also clean inside has = subst (FaultSays Wrong old new) (sym is) (says_where Wrong First old new fault also (errs clean inside has))

-- what is said of the rows follows
pub errs_where : {X : Type 0} (First Wrong : Trees → Type 0) (old new : State) (r : Result X RowFault) → Errs First old new r → (First old.now.trees → Wrong old.now.trees) → Errs Wrong old new r
errs_where First Wrong old new (Ok x) errs also clean inside has = tt
errs_where First Wrong old new (Err e) errs also clean inside has = says_where Wrong First old new e also (errs clean inside has)

-- an error of what is worked out of what was read
pub errs_as : {X Y : Type 0} (Wrong : Trees → Type 0) (old new : State) (x : X) (r : Result Y RowFault) (A : Trees → X → Type 0) → Looks old new (Ok x) A → (A old.now.trees x → IfErr r (Blames (Wrong old.now.trees))) → Errs Wrong old new r
errs_as Wrong old new x (Ok y) A first blames clean inside has = tt
errs_as Wrong old new x (Err e) A first blames clean inside has = says_judged Wrong old new e (blames (first.says clean inside has).1)
