-- Errors that SQLite tells as failures.
use Rattle.std.proofs.Common.{◌≡◌, ◌⊎◌, ℕ, true, false, [], ◌||◌, ◌&&◌, is_some, true≢false, List, length, Option, Some, None, IsSome, Result, Ok, Err, refl, sym, ap, subst, subst₂, ◌∙◌, append-nil, inl, inr, arith}
use Rattle.sqlite_value.specs.Order.{Row}
use Rattle.sqlite_trees.specs.declared.error.StoreError.{StoreError}
use Rattle.sqlite_trees.specs.declared.error.StoreError.TheVariants as store
use Rattle.sqlite_schema.specs.declared.command.Command.{Command}
use Rattle.sqlite_schema.specs.declared.command.Command.TheVariants.{Select}
use Rattle.sqlite_schema.specs.declared.command.Returning.{Returning}
use Rattle.sqlite_schema.specs.declared.program.Program.{Program}
use Rattle.sqlite_schema.specs.Program.{lets_of}
use Rattle.sqlite_sql.specs.Program.{ProgramOverflows}
use Rattle.sqlite_trees.specs.Tree.{Trees}
use Rattle.sqlite_typing.specs.Types.{accepts_program}
use Rattle.sqlite_schema.specs.declared.schema.Schema.{Schema}
use Rattle.sqlite_resolve.specs.declared.compiled.Compiled.{Compiled}
use Rattle.sqlite_resolve.specs.declared.error.CompileError.{CompileError}
use Rattle.sqlite.specs.declared.error.Error.{Error}
use Rattle.sqlite.specs.declared.error.Error.TheVariants.{SqliteFailure}
use Rattle.sqlite.specs.declared.error.ErrorCode.{ErrorCode}
use Rattle.sqlite.specs.declared.error.ErrorCode.TheVariants as code
use Rattle.sqlite.specs.Clock.{timed}
use Rattle.sqlite.specs.Does.{Does}
use Rattle.sqlite.specs.Effect.{Database, is_query, RefusesQuery, RefusesToRead}
use Rattle.sqlite.specs.Listing.{understood, reads_listing, IsSourceOf}
use Rattle.sqlite.specs.State.{State, mode_of, text_of, store_error, Fails, FailsToShow, HasCause, FailsToQuery, IsMisplaced, IsNoStatement, IsNotRun, RunsCommand, ExecutesIn, ExecutesInside, is_pragma, shows_rows}
use Rattle.sqlite.proofs.Callers.{IsPlain, command_of, statement_of}
use Rattle.society_rows.specs.declared.fault.RowFault.{RowFault}
use Rattle.society_rows.specs.Effects.{MayFail}
use Rattle.society_rows.specs.Faults.{fault_of_error, is_medium_code, is_of_medium, IsFailure}

-- SQLite told it as a failure, and as one of the medium only where this holds
abbrev pub IsCoded : Type 0 → Error → Type 0
IsCoded May e = (code : ErrorCode) × (e ≡ SqliteFailure code) × (is_medium_code code ≡ true → May)

-- the text is one statement, and has so many parameters
abbrev pub IsSingle : List ℕ → ℕ → Result Compiled CompileError → Type 0
IsSingle text count (Ok c) = (c.tail ≡ length text) × (length c.names ≡ count)
IsSingle text count (Err e) = ⊥

failure_of : (c : ErrorCode) → IsFailure (fault_of_error (SqliteFailure c))
failure_of code.OutOfMemory = inl refl
failure_of c = inr (c, refl)

pub failure_told : {May : Type 0} (fault : RowFault) (e : Error) → fault ≡ fault_of_error e → IsCoded May e → IsFailure fault
failure_told fault e is coded = subst IsFailure (sym (is ∙ ap fault_of_error coded.1)) (failure_of coded.0)

medium_of : (c : ErrorCode) → is_of_medium (fault_of_error (SqliteFailure c)) ≡ is_medium_code c
medium_of code.OutOfMemory = refl
medium_of c = refl

-- such a failure tells of the medium only where that holds
pub medium_told : {May : Type 0} (fault : RowFault) (e : Error) → fault ≡ fault_of_error e → IsCoded May e → is_of_medium fault ≡ true → May
medium_told fault e is coded tells = coded.2 (sym (medium_of coded.0) ∙ sym (ap is_of_medium (is ∙ ap fault_of_error coded.1)) ∙ tells)

-- a failure that doesn't tell of it
pub unblamed : {May : Type 0} → false ≡ true → May
unblamed tells = absurd (true≢false (sym tells))

store_coded : (old new : State) (TooBig : Type 0) (cause : StoreError) → HasCause old new TooBig cause → IsCoded (MayFail old new) (store_error cause)
store_coded old new TooBig store.OutOfMemory cause = (code.OutOfMemory, refl, unblamed)
store_coded old new TooBig store.Io cause = (code.SystemIoFailure, refl, λ tells. inl cause)
store_coded old new TooBig store.Corrupt cause = (code.DatabaseCorrupt, refl, λ tells. inl cause)
store_coded old new TooBig store.Full cause = (code.DiskFull, refl, λ tells. inl cause)
store_coded old new TooBig store.Broken cause = (code.Closed, refl, λ tells. inr (inl cause))
store_coded old new TooBig store.Unstorable cause = (code.TooBig, refl, unblamed)

pub fails_coded : (old new : State) (TooBig : Type 0) (e : Error) → Fails old new TooBig e → IsCoded (MayFail old new) e
fails_coded old new TooBig e h = let told = store_coded old new TooBig h.0 h.2 in (told.0, h.1 ∙ told.1, told.2)

-- the limit of steps is why it may fail
pub limited : (old new : State) → IsSome old.step_limit → MayFail old new
limited old new limit = inr (inr limit)

-- the store itself errs by want of memory, or where it may fail
store_reasons : (old new : State) (e : Error) → Fails old new ⊥ e → (e ≡ SqliteFailure code.OutOfMemory) ⊎ MayFail old new
store_reasons old new e h = by_cause h.0 h.1 h.2
  where
    by_cause : (cause : StoreError) → e ≡ store_error cause → HasCause old new ⊥ cause → (e ≡ SqliteFailure code.OutOfMemory) ⊎ MayFail old new
    by_cause store.OutOfMemory is cause = inl is
    by_cause store.Io is cause = inr (inl cause)
    by_cause store.Corrupt is cause = inr (inl cause)
    by_cause store.Full is cause = inr (inl cause)
    by_cause store.Broken is cause = inr (inr (inl cause))
    by_cause store.Unstorable is cause = absurd cause

pub refused_coded : {May : Type 0} (limit : Option ℕ) → (IsSome limit → May) → (db : Database) (q : Program) (params : Row) (e : Error) → RefusesQuery limit db q params e → IsCoded May e
refused_coded limit may db q params e (inl h) = (code.TypeMismatch, h.0, unblamed)
refused_coded limit may db q params e (inr (inl h)) = (code.IntegerOverflow, h.0, unblamed)
refused_coded limit may db q params e (inr (inr h)) = (code.OperationInterrupted, h.0, λ tells. may h.1)

read_coded : {May : Type 0} (limit : Option ℕ) → (IsSome limit → May) → (command : Command) (db : Database) (params : Row) (e : Error) → is_query command ≡ true → RefusesToRead limit command db params e → IsCoded May e
read_coded limit may (Select q names) db params e asks h = refused_coded limit may db q params e h
read_coded limit may _ db params e asks h = absurd (true≢false (sym asks))

misplaced_coded : {May : Type 0} (s : State) (command : Command) (e : Error) → IsMisplaced s command e → IsCoded May e
misplaced_coded s command e (inl h) = (code.TransactionState, h.0, unblamed)
misplaced_coded s command e (inr h) = (code.NoSuchSavepoint, h.0, unblamed)

command_coded : (old new : State) (text : List ℕ) (c : Compiled) (params : Row) (e : Error)
    → (Does old.step_limit (mode_of old) params old.now (text_of text c) c.returning c.command (Err (Some e)) → IsCoded (MayFail old new) e) → RunsCommand old new text c params (Err e) → IsCoded (MayFail old new) e
command_coded old new text c params e does (inr failed) = fails_coded old new _ e failed
command_coded old new text c params e does (inl (inl misplaced, same)) = misplaced_coded old c.command e misplaced
command_coded old new text c params e does (inl (inr done, same)) = does done.1

silent : (k : Command) (r : Option Returning) → is_query k ≡ false → is_pragma k ≡ false → r ≡ None → (is_query k || (true && (is_pragma k || is_some r))) ≡ false
silent k r query pragma none = rw (query, pragma, none)

-- ---- one text, known under a schema

module _ (schema : Schema) (text : List ℕ) (params : Row) (old new : State) (has : old.now.schema ≡ schema) (plain : IsPlain (understood schema text))
    (single : IsSingle text (length params) (understood schema text)) where
  known : (r : Result Compiled CompileError) → understood old.now.schema text ≡ r → understood schema text ≡ r
  known r is = sym (ap (λ s. understood s text) has) ∙ is

  no_statement : (e : Error) → IsNoStatement old text params e → IsCoded (MayFail old new) e
  no_statement e (inl h) = absurd (subst (IsSingle text (length params)) (known (Err h.0) h.1) single)
  no_statement e (inr h) =
      let one = subst (IsSingle text (length params)) (known (Ok h.0) h.1) single in
      elim h.2 [
        | inl more ↦ absurd (more.0 (omega (arith, one.0)))
        | inr rest ↦ elim rest [ inl count ↦ absurd (count.0 (sym one.1)) | inr clock ↦ (code.NoClock, clock.1, unblamed) ]
      ]

  not_run : (e : Error) → IsNotRun old new text params e → IsCoded (MayFail old new) e
  unfolding IsNotRun
  not_run e (inl h) = no_statement e h.0
  not_run e (inr h) = fails_coded old new ⊥ e h

  -- a query errs by a failure alone
  pub query_coded : is_query (command_of (understood schema text)) ≡ true → (e : Error) → FailsToQuery text params old new e → IsCoded (MayFail old new) e
  unfolding FailsToQuery
  query_coded query e (inl h) = not_run e h
  query_coded query e (inr h) =
      let is = known (Ok h.0) h.1.is in
      let full = timed params h.0.formats h.1.now in
      let bare = (subst IsPlain is plain).0 in
      let refused = subst (FailsToShow old new text h.0 full e) bare h.2 in
      read_coded old.step_limit (limited old new) h.0.command refused.0 full e (sym (ap (λ r. is_query (command_of r)) is) ∙ query) refused.2

  -- no error comes of a text that is one statement
  stated : (e : Error) → IsNoStatement old text params e → ⊥
  stated e (inl h) = absurd (subst (IsSingle text (length params)) (known (Err h.0) h.1) single)
  stated e (inr h) =
      let is = known (Ok h.0) h.1 in
      let one = subst (IsSingle text (length params)) is single in
      let bare = subst IsPlain is plain in
      elim h.2 [
        | inl more ↦ more.0 (omega (arith, one.0))
        | inr rest ↦ elim rest [ inl count ↦ count.0 (sym one.1) | inr clock ↦ clock.0 bare.1 ]
      ]

  -- a query that is typed and sums nothing errs by want of memory, or where it may fail
  pub query_reasons : (q : Program) (names : List (List ℕ)) → command_of (understood schema text) ≡ Select q names → reads_listing schema text ≡ false
      → accepts_program schema (lets_of q) q.body params ≡ true → ((db : Trees) → ProgramOverflows db params [] (lets_of q) q.body → ⊥)
      → (e : Error) → FailsToQuery text params old new e → (e ≡ SqliteFailure code.OutOfMemory) ⊎ MayFail old new
  unfolding FailsToQuery IsNotRun
  query_reasons q names command unlisted typed sums e (inl (inl h)) = absurd (stated e h.0)
  query_reasons q names command unlisted typed sums e (inl (inr h)) = store_reasons old new e h
  query_reasons q names command unlisted typed sums e (inr h) =
      let is = known (Ok h.0) h.1.is in
      let bare = subst IsPlain is plain in
      let refused = rw (bare.0, bare.1, append-nil params) at h.2 in
      let db : refused.0 ≡ old.now = subst (λ b. IsSourceOf b old.now refused.0) (ap (λ s. reads_listing s text) has ∙ unlisted) refused.1 in
      let read : RefusesQuery old.step_limit old.now q params e =
      subst₂ (λ k d. RefusesToRead old.step_limit k d params e) (sym (ap command_of is) ∙ command) db refused.2 in
      elim read [
        | inl wrong ↦ absurd (true≢false (sym typed ∙ sym (ap (λ s. accepts_program s (lets_of q) q.body params) has) ∙ wrong.1))
        | inr rest ↦ elim rest [ inl over ↦ absurd (sums old.now.trees over.1) | inr limit ↦ inr (inr (inr limit.1)) ]
      ]

  -- a statement that shows no rows errs by a failure alone, if its command does
  pub statement_coded : (command : Command) → command_of (understood schema text) ≡ command → is_query command ≡ false → is_pragma command ≡ false
      → ((e : Error) → Does old.step_limit (mode_of old) params old.now (statement_of text (understood schema text)) None command (Err (Some e)) → IsCoded (MayFail old new) e)
      → (e : Error) → ExecutesInside 0 text params old new (Err e) → IsCoded (MayFail old new) e
  unfolding ExecutesIn
  statement_coded command named query pragma does e (inr ended) = (code.TransactionState, ended.1, unblamed)
  statement_coded command named query pragma does e (inl (inl none, left)) = not_run e none
  statement_coded command named query pragma does e (inl (inr h, left)) =
      let is = known (Ok h.0) h.1.is in
      let full = timed params h.0.formats h.1.now in
      let bare = subst IsPlain is plain in
      let this : h.0.command ≡ command = sym (ap command_of is) ∙ named in
      let quiet : shows_rows false h.0 ≡ false = silent h.0.command h.0.returning (ap is_query this ∙ query) (ap is_pragma this ∙ pragma) bare.0 in
      let ran : RunsCommand old new text h.0 full (Err e) = rw quiet at h.2 in
      command_coded old new text h.0 full e
      (λ d. does e (subst₂ (λ k t. Does old.step_limit (mode_of old) params old.now t None k (Err (Some e))) this (sym (ap (statement_of text) is)) (rw (bare.0, bare.1, append-nil params) at d)))
      ran
