-- CREATE TABLE, for every table in turn.
use Rattle.std.proofs.Common.{◌≡◌, ℕ, List, [], false, Ok, None, sym, ap, subst, ◌∙◌}
use Rattle.sqlite_schema.specs.declared.command.Command.TheVariants.{CreateTable}
use Rattle.sqlite_schema.specs.declared.schema.Table.{Table}
use Rattle.sqlite_schema.specs.declared.schema.Schema.{Schema}
use Rattle.sqlite_resolve.specs.Compile.{table_defined_by}
use Rattle.sqlite_catalog.specs.Change.{created, next_tree, KeepsRows}
use Rattle.sqlite.specs.Effect.{Database}
use Rattle.sqlite.specs.Does.{Tally, lacks_sequence}
use Rattle.sqlite.specs.Listing.{understood}
use Rattle.sqlite.specs.State.{State, Writes as WritesCommand, Executes}
use Rattle.sqlite.proofs.Callers.{IsPlain, command_of, statement_of, runs_as}
use Rattle.society_rows.proofs.lemmas.errors.Failures.{IsSingle}
use Rattle.society_rows.proofs.lemmas.changes.Parts.{went, same_value}

-- under the schema the text makes the table
pub record IsDefinition (before : Schema) (text : List ℕ) (table : Table) : Type 0 where
  pub command : command_of (understood before text) ≡ CreateTable
  pub whole : statement_of text (understood before text) ≡ text
  pub plain : IsPlain (understood before text)
  pub single : IsSingle text 0 (understood before text)
  pub defines : table_defined_by text ≡ Ok (record table { tree = 0 })
  pub uncounted : lacks_sequence (created before table) ≡ false

pub record IsMade (before : Schema) (table : Table) (old new : Database) : Type 0 where
  pub schema : new.schema ≡ created before table
  pub empty : new.trees (next_tree before) ≡ []
  pub others : KeepsRows before.tables old.trees new.trees

pub creates : (before : Schema) (text : List ℕ) (table : Table) → IsDefinition before text table → (old new : State) (count : ℕ) → old.now.schema ≡ before → Executes text [] old new (Ok count)
    → IsMade before table old.now new.now
creates before text table is old new count has h =
    let w = subst (λ t. WritesCommand old new None CreateTable t [] count) is.whole (runs_as text [] old new before has CreateTable is.command is.plain count h) in
    let all = went w.changed in
    let first = went all.1 in
    let made = first.1 in
    let both : Ok made.table ≡ Ok (record table { tree = 0 }) = sym made.defined ∙ is.defines in
    let same : made.table ≡ record table { tree = 0 } = same_value both in
    let schema : first.0.schema ≡ created before table = made.is ∙ ap (λ s. created s made.table) has ∙ ap (created before) same in
    let plain : lacks_sequence first.0.schema ≡ false = ap lacks_sequence schema ∙ is.uncounted in
    let now : new.now ≡ first.0 = ap (λ (p : Tally × Database). p.1) (same_value all.2) ∙ same_value (rw plain at first.2) in
    record {
      schema = ap (λ (d : Database). d.schema) now ∙ schema;
      empty = ap (λ (d : Database). d.trees (next_tree before)) now ∙ subst (λ s. first.0.trees (next_tree s) ≡ []) has made.empty;
      others = subst (λ (d : Database). KeepsRows before.tables old.now.trees d.trees) (sym now) (subst (λ (s : Schema). KeepsRows s.tables old.now.trees first.0.trees) has made.others);
    }
