-- When a call that failed tells of the medium.
use Rattle.std.proofs.Common.{◌≡◌, ◌∙◌, ◌≤◌, ℕ, true, true≢false, List, Option, IsSome, Result, Ok, Err, IsTrue, IsErrAnd, sym, subst, inl, inr, arith}
use Rattle.std.proofs.lemmas.Bool.{cases_Bool}
use Rattle.sqlite_value.specs.Order.{Row}
use Rattle.sqlite.specs.declared.error.Error.{Error}
use Rattle.sqlite.specs.Effect.{Database}
use Rattle.sqlite.specs.State.{State, ExecutesInside, HasCleanDisk, Survives}
use Rattle.society_rows.specs.declared.fault.RowFault.{RowFault}
use Rattle.society_rows.specs.Effects.{BlamesMediumOver, MayFail, RanAs, TellsOfMedium, WritesOver}
use Rattle.society_rows.specs.Faults.{is_of_medium}
use Rattle.society_rows.proofs.lemmas.errors.Failures.{IsCoded, medium_told}

-- ---- several calls

-- the medium may have failed in a later call of several: so it may in all
pub may_on : (old mid new : State) → Survives old mid (λ _. ⊥) → HasCleanDisk mid → mid.faults ≤ new.faults → MayFail mid new → MayFail old new
may_on old mid new first clean up (inl fails) = inl (let fell = first.counts in omega (arith, fell, fails))
may_on old mid new first clean up (inr (inr limit)) = inr (inr (subst (λ (l : Option ℕ). IsSome l) first.limit limit))
may_on old mid new first clean up (inr (inl shut)) = elim (cases_Bool old.is_open) [
  | inl was ↦ elim (first.closes clean was) [ inl still ↦ absurd (true≢false (sym still ∙ shut)) | inr fails ↦ inl (let fell = up in omega (arith, fell, fails)) ]
  | inr none ↦ inr (inl none)
]

tells_on : {X : Type 0} (old mid new : State) (result : Result X RowFault) → Survives old mid (λ _. ⊥) → HasCleanDisk mid → mid.faults ≤ new.faults → TellsOfMedium mid new result → TellsOfMedium old new result
tells_on old mid new (Ok x) first clean up h = tt
tells_on old mid new (Err fault) first clean up h = λ tells. may_on old mid new first clean up (h tells)

-- of a later call, after some that went through
pub blames_then : {X Z : Type 0} (Was Is : Database → Type 0) (a b c : State) {x : X} {P : Database → Database → Type 0} → WritesOver Was a b (Ok x) P → ((d e : Database) → P d e → Is e) → (result : Result Z RowFault)
    → Survives b c (λ _. ⊥) → BlamesMediumOver Is b c result → BlamesMediumOver Was a c result
blames_then Was Is a b c before holds result survives blamed clean inside was =
    let early : HasCleanDisk b = omega (arith, survives.clean) in
    tells_on a b c result before.survives early survives.counts (blamed clean (before.inside early inside) (holds a.now b.now (before.change early inside was)))

-- the same of a fault that is handed on
pub blames_after : {X Z : Type 0} (Was Is : Database → Type 0) (a b c : State) {x : X} {P : Database → Database → Type 0} → WritesOver Was a b (Ok x) P → ((d e : Database) → P d e → Is e) → (fault : RowFault)
    (result : Result Z RowFault) → IsErrAnd result (λ e. e ≡ fault) → Survives b c (λ _. ⊥) → BlamesMediumOver {X = Unit {0}} Is b c (Err fault) → BlamesMediumOver Was a c result
blames_after Was Is a b c before holds fault (Ok y) is survives blamed clean inside was = tt
blames_after Was Is a b c before holds fault (Err e) is survives blamed clean inside was =
    subst (λ f. is_of_medium f ≡ true → MayFail a c) (sym is) (blames_then {Z = Unit {0}} Was Is a b c before holds (Err fault) survives blamed clean inside was)

-- ---- one statement

-- of a statement that shows no rows
pub statement_blames : (Was : Database → Type 0) (text : List ℕ) (params : Row) (old new : State) (result : Result (Unit {0}) RowFault) → (HasCleanDisk new → IsTrue old.in_transaction → RanAs text params old new result)
    → (Was old.now → (e : Error) → ExecutesInside 0 text params old new (Err e) → IsCoded (MayFail old new) e) → BlamesMediumOver Was old new result
statement_blames Was text params old new result ran coded clean inside has = on result (ran clean inside)
  where
    on : (r : Result (Unit {0}) RowFault) → RanAs text params old new r → TellsOfMedium old new r
    on (Ok _) h = tt
    on (Err fault) h = medium_told fault h.0 h.1 (coded has h.0 h.2)
