-- Columns, references and tables as code names them (representation).
use Rattle.std.specs.Prelude.{ℕ, ◌+◌, Bool, true, false, List, [], ◌∷◌, ◌++◌, codes, if◌then◌else◌, map, reverse}
use Rattle.std.specs.Borrow.{Bor}
use Rattle.std.specs.Fmt.{decimal}
use Rattle.sqlite_schema.specs.declared.schema.Column.{Column}
use Rattle.sqlite_schema.specs.declared.schema.Kind.{Kind}
use Rattle.sqlite_schema.specs.declared.schema.Reference.{Reference}
use Rattle.sqlite_schema.specs.declared.schema.Index.{Index}
use Rattle.sqlite_schema.specs.declared.schema.Schema.{Schema}
use Rattle.sqlite_schema.specs.declared.schema.Table.{Table}
use Rattle.sqlite_value.specs.Keys.{plain}
use Rattle.society_rows.specs.Finding.{is_one}
use Rattle.society_rows.specs.Layout.{column_of, keyed_table, numbered_table, pool_cuts, pool_returns, refers, table_with}
use Rattle.society_rows.specs.Layouts.{schema_to}
use Rattle.society_rows.specs.declared.shapes.Parent.{Parent}
use Rattle.society_rows.specs.declared.shapes.Rows.{Rows}
use Rattle.society_rows.specs.declared.shapes.Rows.TheVariants as rows
use Rattle.society_rows.specs.declared.shapes.TableShape.{TableShape}
use Rattle.society_rows.specs.declared.tables.TableName.{TableName}

-- columns by names and kinds
abbrev pub columns_named : List (Bor (List ℕ) × Kind) → List Column
columns_named forms = map (λ (f : Bor (List ℕ) × Kind). column_of f.1 f.0.now) forms

-- the reference to a parent
abbrev pub refers_to : Parent → Reference
refers_to parent = refers parent.columns.now parent.parent.now (map (λ (f : Bor (List ℕ)). f.now) parent.parent_columns.now)

-- as it is, or where it is turned from the last to the first
abbrev pub in_order : {X : Type 0} → Bool → List X → List X
in_order true xs = reverse xs
in_order false xs = xs

-- the references of a shape, in one of both orders
abbrev pub references_of : TableShape → Bool → List Reference
references_of shape turned = in_order turned (map refers_to shape.parents.now)

-- the table of a shape, with this tree and these references
abbrev pub table_shaped : TableShape → ℕ → List Reference → Table
table_shaped shape tree references = elim shape.rows [
  | rows.Single ↦ numbered_table shape.name.now tree (columns_named shape.columns.now) (is_one ∷ []) references
  | rows.Numbered ↦ numbered_table shape.name.now tree (columns_named shape.columns.now) [] references
  | rows.Keyed ↦ keyed_table shape.name.now tree (columns_named shape.columns.now) shape.key.now references
]

-- whether its rows are under a key of their columns, for which there is an index
abbrev pub is_guarded : Rows → Bool
is_guarded rows.Keyed = true
is_guarded _ = false

-- the name of that index
abbrev pub guard_name : List ℕ → List ℕ
guard_name table = codes "sqlite_autoindex_" ++ (table ++ (codes "_" ++ decimal 1))

-- that index, where the table has this tree
abbrev pub guard_shaped : TableShape → ℕ → Index
guard_shaped shape tree = record { name = guard_name shape.name.now; tree = tree + 1; table = tree; columns = shape.key.now; order = plain; is_unique = true }

-- that index, or none
abbrev pub guards_shaped : TableShape → ℕ → List Index
guards_shaped shape tree = if is_guarded shape.rows then guard_shaped shape tree ∷ [] else []

-- the table of a name, where the references of cuts and of payments may be turned
abbrev pub table_turned : Bool → Bool → TableName → Table
table_turned cuts payments = table_with (in_order cuts pool_cuts.references) (in_order payments pool_returns.references)

-- the schema of so many of the first tables, where the same may be
abbrev pub schema_turned : ℕ → Bool → Bool → Schema
schema_turned count cuts payments = schema_to count (in_order cuts pool_cuts.references) (in_order payments pool_returns.references)
