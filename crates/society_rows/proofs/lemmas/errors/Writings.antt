-- Every error of a write is told as a failure.
use Rattle.std.proofs.Common.{◌≡◌, ℕ, false, List, length, None, Some, Err, refl, sym, subst}
use Rattle.sqlite_value.specs.Order.{Row}
use Rattle.sqlite_schema.specs.declared.command.Command.{Command}
use Rattle.sqlite_schema.specs.declared.command.Command.TheVariants.{Insert, InsertOr, Update}
use Rattle.sqlite_schema.specs.declared.command.Conflict.{Conflict}
use Rattle.sqlite_schema.specs.declared.command.Source.{Source}
use Rattle.sqlite_schema.specs.declared.program.Program.{Program}
use Rattle.sqlite_schema.specs.declared.schema.Schema.{Schema}
use Rattle.sqlite_schema.specs.declared.schema.Table.{Table}
use Rattle.sqlite.specs.declared.error.Error.{Error}
use Rattle.sqlite.specs.Does.{Does}
use Rattle.sqlite.specs.Effect.{is_query}
use Rattle.sqlite.specs.Listing.{understood}
use Rattle.sqlite.specs.State.{State, ExecutesInside, is_pragma, mode_of}
use Rattle.sqlite.proofs.Callers.{statement_of}
use Rattle.society_rows.specs.Effects.{MayFail}
use Rattle.society_rows.specs.Stored.{HasLayout}
use Rattle.society_rows.proofs.lemmas.changes.Commands.{IsCommand, IsCommandOf, command_in}
use Rattle.society_rows.proofs.lemmas.changes.Inserts.{IsSettled}
use Rattle.society_rows.proofs.lemmas.errors.Failures.{IsCoded, IsSingle, limited, statement_coded}
use Rattle.society_rows.proofs.lemmas.errors.Refusals.{insert_coded, insert_or_coded, update_coded}

-- of a text that is this command under the schema
statement_by : {text : List ℕ} {count : ℕ} (command : Command) {schema : Schema} → IsCommandOf schema text count command → (params : Row) → length params ≡ count → (old new : State) → old.now.schema ≡ schema
    → is_query command ≡ false → is_pragma command ≡ false
    → ((e : Error) → Does old.step_limit (mode_of old) params old.now (statement_of text (understood schema text)) None command (Err (Some e)) → IsCoded (MayFail old new) e)
    → (e : Error) → ExecutesInside 0 text params old new (Err e) → IsCoded (MayFail old new) e
statement_by {text} {count} command {schema} is params long old new has query pragma =
    statement_coded schema text params old new has is.plain (subst (λ n. IsSingle text n (understood schema text)) (sym long) is.single) command is.command query pragma

module _ (text : List ℕ) {count : ℕ} {table : Table} {at : ℕ} (settled : IsSettled table at) where
  -- of an INSERT
  pub insert_codes : {from : Source} → IsCommand text count (Insert at from) → (params : Row) → length params ≡ count → (old new : State) → HasLayout old.now
      → (e : Error) → ExecutesInside 0 text params old new (Err e) → IsCoded (MayFail old new) e
  insert_codes {from} is params long old new has =
      statement_by (Insert at from) (command_in text count (Insert at from) is old.now.schema has) params long old new refl refl refl
      (insert_coded (MayFail old new) table at settled old.step_limit (limited old new) (mode_of old) params old.now has (statement_of text (understood old.now.schema text)) from)

  -- of one that updates where a row is in its way
  pub insert_or_codes : {from : Source} {way : Conflict} {clauses : _} → IsCommand text count (InsertOr at way from clauses) → (params : Row) → length params ≡ count → (old new : State) → HasLayout old.now
      → (e : Error) → ExecutesInside 0 text params old new (Err e) → IsCoded (MayFail old new) e
  insert_or_codes {from} {way} {clauses} is params long old new has =
      statement_by (InsertOr at way from clauses) (command_in text count (InsertOr at way from clauses) is old.now.schema has) params long old new refl refl refl
      (insert_or_coded (MayFail old new) table at settled old.step_limit (limited old new) (mode_of old) params old.now has (statement_of text (understood old.now.schema text)) way clauses from)

  -- of an UPDATE
  pub update_codes : {q : Program} → IsCommand text count (Update at q) → (params : Row) → length params ≡ count → (old new : State) → HasLayout old.now
      → (e : Error) → ExecutesInside 0 text params old new (Err e) → IsCoded (MayFail old new) e
  update_codes {q} is params long old new has =
      statement_by (Update at q) (command_in text count (Update at q) is old.now.schema has) params long old new refl refl refl
      (update_coded (MayFail old new) table at settled old.step_limit (limited old new) (mode_of old) params old.now has (statement_of text (understood old.now.schema text)) q)
