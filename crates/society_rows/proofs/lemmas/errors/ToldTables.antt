-- What CREATE TABLE tells of an error.
use Rattle.std.proofs.Common.{◌≡◌, ℕ, List, [], false, IsTrue, Option, Result, Ok, Err, Some, None, IfErr, refl, sym, ap, subst, ◌∙◌, inl, inr}
use Rattle.sqlite_value.specs.Order.{Row}
use Rattle.sqlite_schema.specs.declared.command.Command.TheVariants.{CreateTable}
use Rattle.sqlite_schema.specs.declared.schema.Table.{Table}
use Rattle.sqlite_schema.specs.declared.schema.Schema.{Schema}
use Rattle.sqlite_resolve.specs.Compile.{table_defined_by}
use Rattle.sqlite_catalog.specs.declared.error.Refusal.{Refusal}
use Rattle.sqlite_catalog.specs.declared.error.Refusal.TheVariants as why
use Rattle.sqlite_catalog.specs.Calls.{RefusesTable}
use Rattle.sqlite_catalog.specs.Change.{created}
use Rattle.sqlite.specs.declared.error.Error.{Error}
use Rattle.sqlite.specs.declared.error.ErrorCode.TheVariants as code
use Rattle.sqlite.specs.declared.run.Mode.{Mode}
use Rattle.sqlite.specs.Effect.{Database, alter_error}
use Rattle.sqlite.specs.Does.{Does, MakesTable, lacks_sequence}
use Rattle.sqlite.specs.State.{State, ExecutesInside, HasCleanDisk, mode_of}
use Rattle.society_rows.specs.declared.fault.RowFault.{RowFault}
use Rattle.society_rows.specs.Effects.{BlamesMediumOver, MayFail, OnlyFailsOver, RanAs}
use Rattle.society_rows.specs.Faults.{IsFailure}
use Rattle.society_rows.proofs.lemmas.definitions.Creates.{IsDefinition}
use Rattle.society_rows.proofs.lemmas.errors.Failures.{IsCoded, statement_coded, unblamed}
use Rattle.society_rows.proofs.lemmas.changes.Parts.{same_value}
use Rattle.society_rows.proofs.lemmas.errors.Refusals.{stopped, gave, unmatched}
use Rattle.society_rows.proofs.lemmas.errors.Blamed.{statement_blames}
use Rattle.society_rows.proofs.lemmas.errors.Told.{statement_tells}

alter_coded : {May : Type 0} (schema : Schema) (text : List ℕ) (table : Table) → table_defined_by text ≡ Ok table → (reason : Refusal) → RefusesTable schema text reason → IsCoded May (alter_error reason)
alter_coded schema text table is (why.Invalid e) refuses = absurd (let other = sym is ∙ refuses in cc)
alter_coded schema text table is why.NameTaken refuses = (code.NameTaken, refl, unblamed)
alter_coded schema text table is why.BadName refuses = (code.BadName, refl, unblamed)
alter_coded schema text table is why.BadKey refuses = (code.BadKey, refl, unblamed)
alter_coded schema text table is why.BadText refuses = (code.BadText, refl, unblamed)
alter_coded schema text table is why.TooBig refuses = (code.SchemaTooBig, refl, unblamed)
alter_coded schema text table is (why.Violates rule) refuses = (code.ConstraintViolation rule, refl, unblamed)

made_coded : {May : Type 0} (text : List ℕ) (table : Table) → table_defined_by text ≡ Ok table → (db : Database) (e : Error) → MakesTable text db (Err (Some e)) → IsCoded May e
made_coded text table is db e (inl none) = (code.BadName, none.1, unblamed)
made_coded {May} text table is db e (inr h) = subst (IsCoded May) (sym h.2) (alter_coded db.schema text table is h.0 h.1)

create_coded : {May : Type 0} (before : Schema) (text : List ℕ) (table : Table) → IsDefinition before text table → (limit : Option ℕ) (mode : Mode) (params : Row) (db : Database) → db.schema ≡ before
    → (e : Error) → Does limit mode params db text None CreateTable (Err (Some e)) → IsCoded May e
create_coded before text table is limit mode params db has e h =
    stopped e h
    (λ inner. stopped e inner (made_coded text (record table { tree = 0 }) is.defines db e) (λ on.
    let both : Ok on.1.table ≡ Ok (record table { tree = 0 }) = sym on.1.defined ∙ is.defines in
    let same : on.1.table ≡ record table { tree = 0 } = same_value both in
    let schema : on.0.schema ≡ created before table = on.1.is ∙ ap (λ s. created s on.1.table) has ∙ ap (created before) same in
    gave e (unmatched _ _ (lacks_sequence on.0.schema) (ap lacks_sequence schema ∙ is.uncounted) on.2)))
    (λ after. gave e after.2)

-- every error of such a statement is told as a failure
create_codes : (before : Schema) (text : List ℕ) (table : Table) → IsDefinition before text table → (old new : State) → old.now.schema ≡ before → (e : Error) → ExecutesInside 0 text [] old new (Err e) → IsCoded (MayFail old new) e
create_codes before text table is old new has = statement_coded before text [] old new has is.plain is.single CreateTable is.command refl refl
    (subst (λ t. (e : Error) → Does old.step_limit (mode_of old) [] old.now t None CreateTable (Err (Some e)) → IsCoded (MayFail old new) e) (sym is.whole) (create_coded before text table is old.step_limit (mode_of old) [] old.now has))

-- what such a statement tells of an error
pub create_tells : (before : Schema) (text : List ℕ) (table : Table) → IsDefinition before text table → (old new : State) (result : Result (Unit {0}) RowFault) → (old.in_transaction ≡ false → IfErr result IsFailure)
    → (HasCleanDisk new → IsTrue old.in_transaction → RanAs text [] old new result) → OnlyFailsOver (λ d. d.schema ≡ before) old new result
create_tells before text table is old new result ended ran = statement_tells (λ d. d.schema ≡ before) text [] old new result ended ran (create_codes before text table is old new)

-- when such a statement tells of the medium
pub create_blames : (before : Schema) (text : List ℕ) (table : Table) → IsDefinition before text table → (old new : State) (result : Result (Unit {0}) RowFault)
    → (HasCleanDisk new → IsTrue old.in_transaction → RanAs text [] old new result) → BlamesMediumOver (λ d. d.schema ≡ before) old new result
create_blames before text table is old new result ran = statement_blames (λ d. d.schema ≡ before) text [] old new result ran (create_codes before text table is old new)
