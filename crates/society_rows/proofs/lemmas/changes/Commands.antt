-- Texts, as the one statement that each is under a schema.
use Rattle.std.proofs.Common.{◌≡◌, ℕ, List, [], length, Option, Some, None, Result, Ok, Err, sym, ap, subst}
use Rattle.sqlite_schema.specs.declared.command.Command.{Command}
use Rattle.sqlite_schema.specs.declared.command.Returning.{Returning}
use Rattle.sqlite_schema.specs.declared.schema.Reference.{Reference}
use Rattle.sqlite_schema.specs.declared.schema.Schema.{Schema}
use Rattle.sqlite_resolve.specs.declared.compiled.Compiled.{Compiled}
use Rattle.sqlite_resolve.specs.declared.error.CompileError.{CompileError}
use Rattle.sqlite.specs.Listing.{understood}
use Rattle.sqlite.proofs.Callers.{IsPlain, command_of}
use Rattle.society_rows.specs.Layouts.{IsFirst, schema_to}
use Rattle.society_rows.proofs.lemmas.definitions.FirstTables.{ordered}
use Rattle.society_rows.proofs.lemmas.errors.Failures.{IsSingle}

-- a statement: its command, its RETURNING, the formats in which it reads the time, where its text ends, and how many parameters it has
abbrev pub Statement : Type 0
Statement = Command × Option Returning × List (List ℕ) × ℕ × ℕ

abbrev pub statement_in : Result Compiled CompileError → Option Statement
statement_in (Ok c) = Some (c.command, c.returning, c.formats, c.tail, length c.names)
statement_in (Err e) = None

-- a text that is all one statement of this command, with so many parameters
abbrev pub one_statement : List ℕ → ℕ → Command → Option Statement
one_statement text count command = Some (command, None, [], length text, count)

-- under the schema the text is this command, with so many parameters
pub record IsCommandOf (schema : Schema) (text : List ℕ) (count : ℕ) (means : Command) : Type 0 where
  pub command : command_of (understood schema text) ≡ means
  pub plain : IsPlain (understood schema text)
  pub single : IsSingle text count (understood schema text)

pub is_command : (schema : Schema) (text : List ℕ) (count : ℕ) (means : Command) → statement_in (understood schema text) ≡ one_statement text count means → IsCommandOf schema text count means
is_command schema text count means is =
    let parts = opened (understood schema text) is in
    record { command = parts.0; plain = parts.1; single = parts.2 }
  where
    opened : (r : Result Compiled CompileError) → statement_in r ≡ one_statement text count means → (command_of r ≡ means) × IsPlain r × IsSingle text count r
    opened (Ok c) e =
        let same : ◌≡◌ {A = Statement} (c.command, c.returning, c.formats, c.tail, length c.names) (means, None, [], length text, count) = cc in
        (ap (λ (s : Statement). s.0) same, (ap (λ (s : Statement). s.1) same, ap (λ (s : Statement). s.2) same), (ap (λ (s : Statement). s.3) same, ap (λ (s : Statement). s.4) same))
    opened (Err e) none = absurd cc

-- over layout 3 the text is this command, in whatever order references are listed
abbrev pub IsCommand : List ℕ → ℕ → Command → Type 0
IsCommand text count command = (cuts payments : List Reference) → statement_in (understood (schema_to 14 cuts payments) text) ≡ one_statement text count command

pub command_in : (text : List ℕ) (count : ℕ) (command : Command) → IsCommand text count command → (schema : Schema) → IsFirst 14 schema → IsCommandOf schema text count command
command_in text count command is schema laid =
    is_command schema text count command (subst (λ s. statement_in (understood s text) ≡ one_statement text count command) (sym (ordered laid).is) (is (ordered laid).cuts (ordered laid).payments))
