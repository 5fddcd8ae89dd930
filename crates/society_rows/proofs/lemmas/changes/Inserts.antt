-- INSERT, for every table.
use Rattle.std.proofs.Common.{◌≡◌, ℕ, ◌+◌, ◌/◌, Bool, true, false, cond, true≢false, Option, MatchBool, drop, ◌-◌, List, [], ◌∷◌, ◌++◌, length, map, slice_get, Some, None, Ok, Err, Result, OnOk, refl, sym, ap, ap₂, subst, subst₂, ◌∙◌, ◌≢◌, append-nil, IsPermutation}
use Rattle.std.specs.List.{AllByRecursion}
use Rattle.std.proofs.lemmas.List.{map-append}
use Rattle.std.proofs.lemmas.List.Sorted.{IsPermutation-map}
use Rattle.sqlite_value.specs.Order.{Row}
use Rattle.sqlite_trees.specs.Tree.{Trees, rowid, put_row}
use Rattle.sqlite_trees.specs.View.{is_int}
use Rattle.sqlite_value.specs.declared.value.Value.TheVariants.{Null}
use Rattle.std.specs.List.{range_with_len}
use Rattle.sqlite_sql.specs.Term.{Term, col, lit, eval_all}
use Rattle.sqlite_schema.specs.declared.schema.Keys.TheVariants.{Enforced}
use Rattle.sqlite_schema.specs.declared.schema.Reference.{Reference}
use Rattle.sqlite_schema.specs.declared.schema.Stamps.{Stamps}
use Rattle.sqlite_schema.specs.declared.schema.Table.{Table}
use Rattle.sqlite_schema.specs.declared.schema.Schema.{Schema}
use Rattle.sqlite_schema.specs.declared.command.Command.TheVariants.{Insert}
use Rattle.sqlite_schema.specs.declared.command.Source.TheVariants.{Values}
use Rattle.sqlite_rules.specs.declared.error.Rowids.TheVariants.{Chosen, Above}
use Rattle.sqlite_rules.specs.Cast.{cast_row}
use Rattle.sqlite_rules.specs.Edit.{Applies, taken_by, edit_of, with_rowid, numbered}
use Rattle.sqlite.specs.declared.error.Error.{Error}
use Rattle.sqlite.specs.Effect.{Database, value_rows}
use Rattle.sqlite.specs.Rows.{Task, Written, stamped, rowids_for, count_of, Edited}
use Rattle.sqlite.specs.Does.{Tally, AtPlace, OnRows}
use Rattle.sqlite.specs.State.{State, mode_of, ExecutesInside}
use Rattle.sqlite.proofs.Callers.{runs_as, one_step}
use Rattle.society_rows.specs.Layouts.{IsFirst, schema_to}
use Rattle.society_rows.specs.NewRows.{one_after_another}
use Rattle.society_rows.specs.Stored.{values_of, rows_in, HasLayout, Adds}
use Rattle.society_rows.proofs.lemmas.changes.Commands.{IsCommand, command_in}
use Rattle.society_rows.proofs.lemmas.changes.Parts.{went, same_value}
use Rattle.society_rows.proofs.lemmas.changes.Puts.{put_all_permutes, put_all_numbered}
use Rattle.society_rows.proofs.lemmas.changes.References.{no_works}
use Rattle.society_rows.proofs.lemmas.definitions.FirstTables.{all_laid, ordered}

abbrev pub no_stamps : Stamps
no_stamps = record { places = []; terms = []; formats = [] }

-- the source is stored as a row of these values, whatever rowid it gets
abbrev pub Stores : Table → Row → Row → Type 0
Stores table source row = (rows : List Row) → values_of table (with_rowid Chosen rows (cast_row table source)) ≡ row

abbrev pub AllStore : Table → List Row → List Row → Type 0
AllStore table [] [] = Unit {0}
AllStore table [] (row ∷ rows) = ⊥
AllStore table (source ∷ sources) [] = ⊥
AllStore table (source ∷ sources) (row ∷ rows) = Stores table source row × AllStore table sources rows

-- what an INSERT asks of its table: it stands at this place of layout 3, with references that are listed as there
pub record IsSettled (table : Table) (at : ℕ) : Type 0 where
  pub refers : List Reference → List Reference → List Reference
  pub listed : (cuts payments : List Reference) → slice_get (schema_to 14 cuts payments).tables at ≡ Some (record table { references = refers cuts payments })
  pub uncounted : table.is_counted ≡ false
  pub unstamped : table.stamps ≡ no_stamps

-- the table as it stands in the schema
abbrev pub table_in : (table : Table) (at : ℕ) → IsSettled table at → (schema : Schema) → IsFirst 14 schema → Table
table_in table at settled schema laid = record table { references = settled.refers (ordered laid).cuts (ordered laid).payments }

pub listed_in : (table : Table) (at : ℕ) (settled : IsSettled table at) (schema : Schema) (laid : IsFirst 14 schema) → slice_get schema.tables at ≡ Some (table_in table at settled schema laid)
listed_in table at settled schema laid = ap (λ (s : Schema). slice_get s.tables at) (ordered laid).is ∙ settled.listed (ordered laid).cuts (ordered laid).payments

-- the table as it stands, whose references are listed as ever
pub alone_in : (table : Table) (at : ℕ) (settled : IsSettled table at) → ((cuts payments : List Reference) → settled.refers cuts payments ≡ table.references) → (schema : Schema) → IsFirst 14 schema → slice_get schema.tables at ≡ Some table
alone_in table at settled alone schema laid =
    listed_in table at settled schema laid ∙ ap (λ r. let t : Table = record table { references = r } in let o : Option Table = Some t in o) (alone (ordered laid).cuts (ordered laid).payments)

stored_values : (table : Table) (before sources rows : List Row) → AllStore table sources rows → map (values_of table) (numbered Chosen before (map (λ s. cast_row table s) sources)) ≡ rows
stored_values table before [] [] all = refl
stored_values table before [] (row ∷ rows) all = absurd all
stored_values table before (source ∷ sources) [] all = absurd all
stored_values table before (source ∷ sources) (row ∷ rows) all =
    ap₂ (λ (v : Row) (vs : List Row). v ∷ vs) (all.0 before) (stored_values table (put_row (with_rowid Chosen before (cast_row table source)) before) sources rows all.1)

-- what the step of an INSERT leaves
adds_by : (schema : Schema) → IsFirst 14 schema → (table : Table) (references : List Reference) (sources more : List Row) (db : Trees) (new : Database) → AllStore table sources more → new.schema ≡ schema
    → Applies schema Enforced db (edit_of db (record table { references = references }) [] Chosen 0 sources) new.trees → Adds table more (record { schema = schema; trees = db }) new
adds_by schema laid table references sources more db new fits has went_through =
    let edit = edit_of db (record table { references = references }) [] Chosen 0 sources in
    record {
      layout = subst (IsFirst 14) (sym has) laid;
      rows = subst₂ (λ (a b : List Row). IsPermutation a b) (map-append (values_of table) edit.news (db table.tree) ∙ ap (λ l. l ++ rows_in table db) (stored_values table (db table.tree) sources more fits))
          (ap (map (values_of table)) (sym went_through.rows)) (IsPermutation-map (values_of table) _ _ (put_all_permutes edit.news (db table.tree) went_through.fresh));
      numbered = λ old. subst (AllByRecursion (λ r. is_int (rowid r) ≡ true)) (sym went_through.rows) (put_all_numbered edit.news (db table.tree) went_through.keyed old);
      others = all_laid (λ n. n ≢ table.tree → new.trees n ≡ db n) schema laid went_through.tables;
    }

pub uncounted : (A B : Type 0) (b c : Bool) → b ≡ false → MatchBool (cond b c false) A B → B
uncounted A B true c is h = absurd (true≢false is)
uncounted A B false c is h = h

pub unstamped : (table : Table) (params : Row) → table.stamps ≡ no_stamps → stamped table params ≡ params
unstamped table params is = ap (λ (s : Stamps). params ++ eval_all s.terms (drop (length params - length s.formats) params ∷ [])) is ∙ append-nil params

inserted : (schema : Schema) (laid : IsFirst 14 schema) (table : Table) (at : ℕ) (settled : IsSettled table at) (old new : State) (params : Row) (terms : List Term) (width : ℕ) (sources more : List Row)
    → value_rows params width (length terms / width) terms ≡ sources → AllStore table sources more → (tally : Tally)
    → OnRows (record { limit = old.step_limit; keys = Enforced; schema = schema; table = table_in table at settled schema laid; params = params }) (mode_of old) None (Insert at (Values terms width)) old.now.trees (Ok (tally, new.now))
    → Adds table more (record { schema = schema; trees = old.now.trees }) new.now
inserted schema laid table at settled old new params terms width sources more given fits tally h =
    let db = old.now.trees in
    let it = table_in table at settled schema laid in
    let done = went h in
    let now = ap (λ (p : Tally × Database). p.1) (same_value (went (went done.2).2).2) in
    let sourced = went done.1 in
    let written = went (went sourced.2).2 in
    let counted = went written.2 in
    let trees : done.0.trees ≡ written.0 = ap (λ (w : Written). w.trees) (same_value counted.2) ∙ same_value (uncounted _ _ table.is_counted _ settled.uncounted counted.1) in
    let chosen : rowids_for it (count_of (went sourced.2).0) ≡ Chosen = ap (λ b. cond b (Above (count_of (went sourced.2).0)) Chosen) settled.uncounted in
    let same : sourced.0 ≡ sources = sourced.1.1 ∙ ap (λ p. value_rows p width (length terms / width) terms) (unstamped it params settled.unstamped) ∙ given in
    let edit = edit_of db it [] Chosen 0 sources in
    let step = subst₂ (λ k s. Edited schema Enforced db (edit_of db it [] k 0 s) (Ok written.0)) chosen same written.1 in
    let applied = one_step schema Enforced db written.0 edit (no_works schema laid table.tree (taken_by db edit) edit.news) step in
    let after : Database = record { schema = schema; trees = written.0 } in
    let is : after ≡ new.now = sym (now ∙ ap (λ (t : Trees). let d : Database = record { schema = schema; trees = t } in d) trees) in
    subst (Adds table more (record { schema = schema; trees = db })) is (adds_by schema laid table (settled.refers (ordered laid).cuts (ordered laid).payments) sources more db after fits refl applied)

pub inserts : (table : Table) (at : ℕ) → IsSettled table at → (old new : State) (text : List ℕ) (params : Row) (terms : List Term) (width : ℕ) (sources more : List Row) (r : Result ℕ Error)
    → {count : ℕ} → IsCommand text count (Insert at (Values terms width))
    → value_rows params width (length terms / width) terms ≡ sources → AllStore table sources more
    → HasLayout old.now → ExecutesInside 0 text params old new r → OnOk r (Adds table more old.now new.now)
inserts table at settled old new text params terms width sources more (Err e) is given fits has h = tt
inserts table at settled old new text params terms width sources more (Ok rows) is given fits has h =
    let schema = old.now.schema in
    let command = Insert at (Values terms width) in
    let it = command_in text _ command is schema has in
    let w = runs_as text params old new schema refl command it.command it.plain rows h.0 in
    let task : Task = record { limit = old.step_limit; keys = Enforced; schema = schema; table = table; params = params } in
    let at_table = λ (o : Option Table). AtPlace {X = Table} {A = Tally × Database} (λ t. OnRows (record task { table = t }) (mode_of old) None command old.now.trees) o (Ok (w.tally, new.now)) in
    inserted schema has table at settled old new params terms width sources more given fits w.tally (subst at_table (listed_in table at settled schema has) w.changed)

-- ---- rows as code names them

-- a row as it is given to its table: NULL in place of a rowid, or of the column that is the rowid
abbrev given_row : Option ℕ → Row → Row
given_row None row = Null ∷ row
given_row (Some _) [] = []
given_row (Some _) (v ∷ row) = v ∷ Null ∷ row

-- the parameters from one on, as the columns of such a row
abbrev given_terms : Option ℕ → ℕ → ℕ → List Term
given_terms None from width = lit Null ∷ map (col 0) (range_with_len from width)
given_terms (Some _) from width = col 0 from ∷ lit Null ∷ map (col 0) (range_with_len (from + 1) (width - 1))

-- the same of rows, one after another
abbrev all_terms : Option ℕ → ℕ → ℕ → List Row → List Term
all_terms key width from [] = []
all_terms key width from (row ∷ rows) = given_terms key from width ++ all_terms key width (from + width) rows

abbrev pub terms_of : Table → List Row → List Term
terms_of table rows = all_terms table.key (length table.columns) 0 rows

-- the text adds these rows to the table at this place, whose values are its parameters
pub record IsInsert (table : Table) (at : ℕ) (text : List ℕ) (rows : List Row) : Type 0 where
  pub is : IsCommand text (length (one_after_another rows)) (Insert at (Values (terms_of table rows) (length table.columns + 1)))
  pub given : value_rows (one_after_another rows) (length table.columns + 1) (length (terms_of table rows) / (length table.columns + 1)) (terms_of table rows) ≡ map (given_row table.key) rows
  pub stores : AllStore table (map (given_row table.key) rows) rows

pub adds : {table : Table} {at : ℕ} {text : List ℕ} {rows : List Row} → IsSettled table at → IsInsert table at text rows → (old new : State) (count : ℕ)
    → HasLayout old.now → ExecutesInside 0 text (one_after_another rows) old new (Ok count) → Adds table rows old.now new.now
adds {table} {at} {text} {rows} settled insert old new count =
    inserts table at settled old new text (one_after_another rows) (terms_of table rows) (length table.columns + 1) (map (given_row table.key) rows) rows (Ok count) insert.is insert.given insert.stores
