-- What the text of each table makes.
use Rattle.std.proofs.Common.{◌≡◌, ℕ, Bool, false, List, Option, Result, Ok, ap, refl}
use Rattle.sqlite_schema.specs.declared.command.Command.TheVariants.{CreateTable}
use Rattle.sqlite_schema.specs.declared.schema.Reference.{Reference}
use Rattle.sqlite_schema.specs.declared.schema.Schema.{Schema}
use Rattle.sqlite_schema.specs.declared.schema.Table.{Table}
use Rattle.sqlite_resolve.specs.Compile.{table_defined_by}
use Rattle.sqlite_resolve.specs.declared.error.CompileError.{CompileError}
use Rattle.sqlite_catalog.specs.Change.{created}
use Rattle.sqlite_tied.specs.Compute.{everything}
use Rattle.sqlite.specs.Does.{lacks_sequence}
use Rattle.sqlite.specs.Listing.{understood}
use Rattle.sqlite.proofs.Callers.{statement_of}
use Rattle.society_rows.specs.declared.tables.TableName.{TableName}
use Rattle.society_rows.specs.declared.tables.TableName.TheVariants as name
use Rattle.society_rows.specs.Layout.{table_called, written_out}
use Rattle.society_rows.specs.Layouts.{schema_to}
use Rattle.society_rows.specs.TableNames.{create_text}
use Rattle.society_rows.proofs.lemmas.changes.Commands.{Statement, is_command, one_statement, statement_in}
use Rattle.society_rows.proofs.lemmas.definitions.Creates.{IsDefinition}
use Rattle.society_rows.proofs.lemmas.definitions.FirstTables.{place}

-- what a text is that may make a table: its statement and the text of that, the table, and whether this lacks a count
abbrev Making : Type 0
Making = Option Statement × List ℕ × Result Table CompileError × Bool

abbrev making : Schema → List ℕ → Table → Making
making before text table = (statement_in (understood before text), statement_of text (understood before text), table_defined_by text, lacks_sequence (created before table))

-- a text that is all one statement and makes the table
abbrev made_by : List ℕ → Table → Making
made_by text table = (one_statement text 0 CreateTable, text, Ok (record table { tree = 0 }), false)

-- its text makes it where those before it are there
makes : (table : TableName) (cuts payments : List Reference) → making (schema_to (place table) cuts payments) (create_text table) (table_called table) ≡ made_by (create_text table) (table_called table)
unfolding understood everything written_out
makes name.Office cuts payments = refl
makes name.Transmissions cuts payments = refl
makes name.Returns cuts payments = refl
makes name.Pools cuts payments = refl
makes name.PoolCuts cuts payments = refl
makes name.PoolReturns cuts payments = refl
makes name.Fronts cuts payments = refl
makes name.Verdicts cuts payments = refl
makes name.Versions cuts payments = refl
makes name.Recordings cuts payments = refl
makes name.Credits cuts payments = refl
makes name.Balances cuts payments = refl
makes name.SegmentEnds cuts payments = refl
makes name.MechanicalPools cuts payments = refl

pub defined : (table : TableName) (cuts payments : List Reference) → IsDefinition (schema_to (place table) cuts payments) (create_text table) (table_called table)
defined table cuts payments =
    let is = makes table cuts payments in
    let command = is_command (schema_to (place table) cuts payments) (create_text table) 0 CreateTable (ap (λ (m : Making). m.0) is) in
    record {
      command = command.command;
      whole = ap (λ (m : Making). m.1) is;
      plain = command.plain;
      single = command.single;
      defines = ap (λ (m : Making). m.2) is;
      uncounted = ap (λ (m : Making). m.3) is;
    }
