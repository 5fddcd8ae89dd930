-- What a call tells of an error.
use Rattle.std.proofs.Common.{◌≡◌, ◌⊎◌, ◌∙◌, ℕ, false, List, [], IsSome, Vec, Result, Ok, Err, IfErr, IsTrue, IsErrAnd, refl, sym, ap, subst, inl, inr, arith}
use Rattle.std.proofs.lemmas.Bool.{cases_Bool, false≢true}
use Rattle.std.specs.declared.alloc.Global.{Global}
use Rattle.sqlite_value.specs.Order.{Row}
use Rattle.sqlite.specs.declared.error.Error.{Error}
use Rattle.sqlite.specs.declared.error.ErrorCode.TheVariants as code
use Rattle.sqlite.specs.Effect.{Database, is_query}
use Rattle.sqlite.specs.Listing.{understood}
use Rattle.sqlite_trees.specs.Tree.{Trees}
use Rattle.sqlite.specs.State.{State, HasCleanDisk, ExecutesInside, IsTooLate, Survives}
use Rattle.sqlite.proofs.Callers.{IsPlain}
use Rattle.society_rows.specs.declared.fault.RowFault.{RowFault}
use Rattle.society_rows.specs.Effects.{ErrsByMedium, ErrsByMediumOver, MayFail, OnlyFails, OnlyFailsInside, OnlyFailsOver, RanAs, WritesOver}
use Rattle.society_rows.specs.Faults.{fault_of_error, IsFailure}
use Rattle.society_rows.specs.declared.fault.RowFault.TheVariants.{Memory}
use Rattle.society_rows.specs.Layouts.{HasTables}
use Rattle.society_rows.specs.Reads.{Selected}
use Rattle.society_rows.proofs.lemmas.errors.Failures.{IsCoded, failure_told, query_coded, query_reasons, unblamed}
use Rattle.society_rows.proofs.lemmas.readings.Queries.{IsReading, laid, select_in}

-- of a query
pub query_tells : {tables : ℕ} {text : List ℕ} {params : Row} {Found : Trees → List Row → Type 0} → IsReading tables params text Found → (old new : State) (result : Result (Vec Row Global) RowFault)
    → (HasCleanDisk new → Selected text params old new result) → OnlyFailsOver (HasTables tables) old new result
query_tells {text} {params} it old new result selected clean has = on result (selected clean)
  where
    on : (r : Result (Vec Row Global) RowFault) → Selected text params old new r → IfErr r IsFailure
    on (Ok rows) h = tt
    on (Err fault) h =
        let is = select_in it old.now has in
        failure_told fault h.0 h.1 (elim h.2 [
          | inl failed ↦ query_coded old.now.schema text params old new refl is.is.plain is.is.single (ap is_query is.is.command) h.0 failed
          | inr late ↦ (code.TransactionState, late.4, unblamed)
        ])

-- it errs by want of memory, or where it may fail
pub query_errs : {tables : ℕ} {text : List ℕ} {params : Row} {Found : Trees → List Row → Type 0} → IsReading tables params text Found → (old new : State) (result : Result (Vec Row Global) RowFault)
    → (HasCleanDisk new → Selected text params old new result) → ErrsByMediumOver (HasTables tables) old new result
query_errs {text} {params} it old new result selected clean has = on result (selected clean)
  where
    on : (r : Result (Vec Row Global) RowFault) → Selected text params old new r → IfErr r (λ fault. (fault ≡ Memory) ⊎ MayFail old new)
    on (Ok rows) h = tt
    on (Err fault) h =
        let is = select_in it old.now has in
        elim h.2 [
          | inl failed ↦ elim (query_reasons old.now.schema text params old new refl is.is.plain is.is.single (record { lets = []; body = it.query }) it.names is.is.command is.unlisted is.typed it.sums h.0 failed) [
            | inl memory ↦ inl (h.1 ∙ ap fault_of_error memory)
            | inr may ↦ inr may
          ]
          | inr late ↦ absurd (never is.is.plain late)
        ]
      where
        never : IsPlain (understood old.now.schema text) → IsTooLate text params old new h.0 → ⊥
        never plain late =
            let bare = subst IsPlain late.1.is plain in
            false≢true (subst IsSome bare.0 late.2)

-- both over layout 3
pub query_tells_laid : {text : List ℕ} {params : Row} {Found : Trees → List Row → Type 0} → IsReading 14 params text Found → (old new : State) (result : Result (Vec Row Global) RowFault)
    → (HasCleanDisk new → Selected text params old new result) → OnlyFails old new result
query_tells_laid it old new result selected clean has = query_tells it old new result selected clean (laid old.now has)

pub query_errs_laid : {text : List ℕ} {params : Row} {Found : Trees → List Row → Type 0} → IsReading 14 params text Found → (old new : State) (result : Result (Vec Row Global) RowFault)
    → (HasCleanDisk new → Selected text params old new result) → ErrsByMedium old new result
query_errs_laid it old new result selected clean has = query_errs it old new result selected clean (laid old.now has)

-- of a statement that shows no rows
pub statement_tells : (Was : Database → Type 0) (text : List ℕ) (params : Row) (old new : State) (result : Result (Unit {0}) RowFault) → (old.in_transaction ≡ false → IfErr result IsFailure)
    → (HasCleanDisk new → IsTrue old.in_transaction → RanAs text params old new result) → (Was old.now → (e : Error) → ExecutesInside 0 text params old new (Err e) → IsCoded (MayFail old new) e)
    → OnlyFailsOver Was old new result
statement_tells Was text params old new result ended ran coded clean has = elim (cases_Bool old.in_transaction) [
  | inl inside ↦ on result (ran clean inside)
  | inr outside ↦ ended outside
]
  where
    on : (r : Result (Unit {0}) RowFault) → RanAs text params old new r → IfErr r IsFailure
    on (Ok _) h = tt
    on (Err fault) h = failure_told fault h.0 h.1 (coded has h.0 h.2)

-- of a later call, after some that went through
pub tells_then : {X Z : Type 0} (Was Is : Database → Type 0) (a b c : State) {x : X} {P : Database → Database → Type 0} → WritesOver Was a b (Ok x) P → ((d e : Database) → P d e → Is e) → (result : Result Z RowFault)
    → Survives b c (λ _. ⊥) → OnlyFailsOver Is b c result → OnlyFailsInside Was a c result
tells_then Was Is a b c before holds result survives told inside clean was =
    let early : HasCleanDisk b = omega (arith, survives.clean) in
    told clean (holds a.now b.now (before.change early inside was))

-- the same of a fault that is handed on
pub tells_after : {X Z : Type 0} (Was Is : Database → Type 0) (a b c : State) {x : X} {P : Database → Database → Type 0} → WritesOver Was a b (Ok x) P → ((d e : Database) → P d e → Is e) → (fault : RowFault)
    (result : Result Z RowFault) → IsErrAnd result (λ e. e ≡ fault) → Survives b c (λ _. ⊥) → OnlyFailsOver {X = Unit {0}} Is b c (Err fault) → OnlyFailsInside Was a c result
tells_after Was Is a b c before holds fault (Ok y) is survives told inside clean was = tt
tells_after Was Is a b c before holds fault (Err e) is survives told inside clean was = subst IsFailure (sym is) (tells_then {Z = Unit {0}} Was Is a b c before holds (Err fault) survives told inside clean was)
