-- The statement that says layout 3 in the row of the office, and what it makes of an older layout with the tables that were made before.
use Rattle.std.proofs.Common.{◌≡◌, ◌≢◌, ◌∙◌, ℕ, ℤ, pos, List, [], ◌∷◌, ◌++◌, take, drop, map, filter, true, not, cond, Option, None, Ok, refl, sym, ap, ap₂, subst, inl, codes, IsPermutation}
use Rattle.std.specs.List.{AllByRecursion}
use Rattle.std.specs.Ordering.{is_eq}
use Rattle.std.proofs.lemmas.List.{take-append-drop}
use Rattle.sqlite_value.specs.declared.value.Value.{Value}
use Rattle.sqlite_value.specs.declared.value.Value.TheVariants.{Null, Int, Text}
use Rattle.sqlite_value.specs.Order.{Row, column, value_cmp}
use Rattle.sqlite_trees.specs.Tree.{Trees}
use Rattle.sqlite_sql.specs.Term.{lit, col}
use Rattle.sqlite_schema.specs.declared.program.Program.{Program}
use Rattle.sqlite_schema.specs.declared.schema.Keys.TheVariants.{Enforced}
use Rattle.sqlite_schema.specs.declared.schema.Schema.{Schema}
use Rattle.sqlite_schema.specs.declared.schema.Table.{Table}
use Rattle.sqlite_schema.specs.declared.command.Command.TheVariants.{Update}
use Rattle.sqlite_rules.specs.declared.error.Rowids.TheVariants.{Given}
use Rattle.sqlite_rules.specs.Calls.{ids_of}
use Rattle.sqlite_rules.specs.Cast.{cast_row}
use Rattle.sqlite_rules.specs.Edit.{Applies, edit_of, numbered, put_all, taken_by, without_all}
use Rattle.sqlite_rules.specs.Lists.{Has}
use Rattle.sqlite_rules.proofs.ListLemmas.{all_has, all_from, has_left, has_right}
use Rattle.sqlite_tied.specs.Compute.{everything}
use Rattle.sqlite.specs.Does.{AtPlace, OnRows, Tally}
use Rattle.sqlite.specs.Effect.{Database}
use Rattle.sqlite.specs.Listing.{understood}
use Rattle.sqlite.specs.Rows.{Task, Written}
use Rattle.sqlite.specs.State.{State, ExecutesInside, mode_of}
use Rattle.sqlite.proofs.Callers.{one_permutation, one_step, runs_as}
use Rattle.society_rows.specs.declared.older.OlderLayout.{OlderLayout}
use Rattle.society_rows.specs.declared.older.OlderLayout.TheVariants as older
use Rattle.society_rows.specs.Layout.{all_tables, office, written_out}
use Rattle.society_rows.specs.Layouts.{IsFirst, tables_of}
use Rattle.society_rows.specs.Raising.{BecomesNewest, Extends, Renames, office_under}
use Rattle.society_rows.specs.Stored.{HasLayout, rows_in, values_of}
use Rattle.society_rows.proofs.lemmas.changes.Casts.{cast_int}
use Rattle.society_rows.proofs.lemmas.changes.Commands.{IsCommand, command_in}
use Rattle.society_rows.proofs.lemmas.changes.Inserts.{alone_in}
use Rattle.society_rows.proofs.lemmas.changes.Parts.{went, same_value}
use Rattle.society_rows.proofs.lemmas.changes.References.{no_works}
use Rattle.society_rows.proofs.lemmas.definitions.FirstTables.{all_laid}
use Rattle.society_rows.specs.declared.tables.TableName.TheVariants as name
use Rattle.society_rows.proofs.lemmas.changes.EachInsert.{settled}
use Rattle.society_rows.proofs.lemmas.readings.Answers.{picked, answers_are}

abbrev pub update_text : List ℕ
update_text = codes "UPDATE office SET layout = ?1"

abbrev update_program : Program
update_program = record { lets = []; body = picked 0 [] (col 1 0 ∷ col 1 0 ∷ lit Null ∷ col 0 0 ∷ col 1 3 ∷ col 1 4 ∷ col 1 5 ∷ []) [] }

pub update_is : IsCommand update_text 1 (Update 0 update_program)
unfolding understood everything written_out
update_is cuts payments = refl

abbrev pub newest : Row
newest = Int (pos 3) ∷ []

-- ---- the row of the office

abbrev shown_row : Row → Row
shown_row r = column r 0 ∷ column r 0 ∷ Null ∷ Int (pos 3) ∷ column r 3 ∷ column r 4 ∷ column r 5 ∷ []

abbrev new_row : ℤ → ℤ → List ℕ → Row
new_row society territory name = Int (pos 1) ∷ Null ∷ Int (pos 3) ∷ Int society ∷ Int territory ∷ Text name ∷ []

-- the one row of a table, as it is stored
one_stored : (rs : List Row) (row : Row) → map (values_of office) rs ≡ row ∷ [] → (r : Row) × (rs ≡ r ∷ []) × (values_of office r ≡ row)
one_stored [] row is = absurd cc
one_stored (r ∷ []) row is = (r, refl, cc)
one_stored (r ∷ q ∷ rs) row is = absurd cc

kept_out : (r : Row) → column r 0 ≡ Int (pos 1) → without_all (r ∷ []) (pos 1 ∷ []) ≡ []
unfolding value_cmp lib.Ieee.is_nan lib.Ieee.lt
kept_out r id = ap (λ (v : Value). cond (not (is_eq (value_cmp v (Int (pos 1))))) (r ∷ []) []) id

stored : (society territory : ℤ) (name : List ℕ) → values_of office (cast_row office (new_row society territory name)) ≡ office_under (pos 3) society territory name
unfolding written_out
stored society territory name = rw (cast_int (pos 1), cast_int (pos 3), cast_int society, cast_int territory)

abbrev Columns : Row → ℤ → ℤ → ℤ → List ℕ → Type 0
Columns r was society territory name = (column r 0 ≡ Int (pos 1)) × (column r 2 ≡ Int was) × (column r 3 ≡ Int society) × (column r 4 ≡ Int territory) × (column r 5 ≡ Text name)

columns_of : (r : Row) (was society territory : ℤ) (name : List ℕ) → values_of office r ≡ office_under was society territory name → Columns r was society territory name
unfolding written_out
columns_of r was society territory name is = (cc, cc, cc, cc, cc)

sets_row : (db : Trees) (new : Trees) (rows : List Row) (was society territory : ℤ) (name : List ℕ) → IsPermutation (map shown_row (db 0)) rows → rows_in office db ≡ office_under was society territory name ∷ []
    → new 0 ≡ put_all (without_all (db 0) (ids_of rows)) (numbered Given (without_all (db 0) (ids_of rows)) (map (λ s. cast_row office (drop 1 s)) rows)) → rows_in office new ≡ office_under (pos 3) society territory name ∷ []
unfolding written_out
sets_row db new rows was society territory name seen one put =
    let found = one_stored (db 0) (office_under was society territory name) one in
    let r = found.0 in
    let cols = columns_of r was society territory name found.2 in
    let news : Row = Int (pos 1) ∷ new_row society territory name in
    let is : shown_row r ≡ news = cc (cols.0, cols.2, cols.3, cols.4) in
    let rows_are : rows ≡ news ∷ [] = one_permutation (shown_row r) rows (subst (λ l. IsPermutation (map shown_row l) rows) found.1 seen) ∙ ap (λ (x : Row). x ∷ []) is in
    let left : without_all (db 0) (ids_of rows) ≡ [] = ap₂ (λ (l s : List Row). without_all l (ids_of s)) found.1 rows_are ∙ kept_out r cols.0 in
    let there : new 0 ≡ cast_row office (new_row society territory name) ∷ [] =
    put ∙ ap₂ (λ (l s : List Row). put_all l (numbered Given l (map (λ x. cast_row office (drop 1 x)) s))) left rows_are in
    ap (map (values_of office)) there ∙ ap (λ (x : Row). x ∷ []) (stored society territory name)

renames_by : (schema : Schema) → IsFirst 14 schema → (db : Trees) (new : Database) (rows : List Row) → new.schema ≡ schema → IsPermutation (map shown_row (db 0)) rows
    → Applies schema Enforced db (edit_of db office (ids_of rows) Given 1 rows) new.trees → Renames (record { schema = schema; trees = db }) new
unfolding written_out
renames_by schema laid db new rows has seen applied = record {
  layout = subst (IsFirst 14) (sym has) laid;
  named = λ was society territory name one. sets_row db new.trees rows was society territory name seen one applied.rows;
  others = all_laid (λ n. n ≢ office.tree → new.trees n ≡ db n) schema laid applied.tables;
}

all_kept : (rs : List Row) → filter (λ _. true) rs ≡ rs
all_kept [] = refl
all_kept (r ∷ rs) = ap (λ l. r ∷ l) (all_kept rs)

renamed : (schema : Schema) → IsFirst 14 schema → (old new : State) (tally : Tally)
    → OnRows (record { limit = old.step_limit; keys = Enforced; schema = schema; table = office; params = newest }) (mode_of old) None (Update 0 update_program) old.now.trees (Ok (tally, new.now))
    → Renames (record { schema = schema; trees = old.now.trees }) new.now
unfolding written_out
renamed schema laid old new tally h =
    let db = old.now.trees in
    let done = went h in
    let now = ap (λ (p : Tally × Database). p.1) (same_value (went (went done.2).2).2) in
    let read = went done.1 in
    let written = went read.2 in
    let edit = edit_of db office (ids_of read.0) Given 1 read.0 in
    let applied = one_step schema Enforced db written.0 edit (no_works schema laid office.tree (taken_by db edit) edit.news) written.1 in
    let trees : written.0 ≡ done.0.trees = ap (λ (w : Written). w.trees) (sym (same_value written.2)) in
    let after : Database = record { schema = schema; trees = written.0 } in
    let is : after ≡ new.now = ap (λ (t : Trees). let d : Database = record { schema = schema; trees = t } in d) trees ∙ sym now in
    let seen = answers_are office.tree _ _ [] db newest read.0 (read.1.answer Null) in
    let all : IsPermutation (map shown_row (db 0)) read.0 = subst (λ l. IsPermutation (map shown_row l) read.0) (all_kept (db 0)) seen in
    subst (Renames (record { schema = schema; trees = db })) is (renames_by schema laid db after read.0 refl all applied)

-- the office's row is set to layout 3
pub renames : (old new : State) (count : ℕ) → HasLayout old.now → ExecutesInside 0 update_text newest old new (Ok count) → Renames old.now new.now
unfolding settled written_out
renames old new count has h =
    let schema = old.now.schema in
    let it = command_in update_text 1 (Update 0 update_program) update_is schema has in
    let w = runs_as update_text newest old new schema refl (Update 0 update_program) it.command it.plain count h.0 in
    let task : Task = record { limit = old.step_limit; keys = Enforced; schema = schema; table = office; params = newest } in
    let at_table = λ (o : Option Table). AtPlace {X = Table} {A = Tally × Database} (λ t. OnRows (record task { table = t }) (mode_of old) None (Update 0 update_program) old.now.trees) o (Ok (w.tally, new.now)) in
    renamed schema has old new w.tally (subst at_table (alone_in office 0 (settled name.Office) (λ cuts payments. refl) schema has) w.changed)

-- ---- both

book_there : (from : OlderLayout) → Has (take (tables_of from) all_tables) office
unfolding all_tables
book_there older.First = inl refl
book_there older.Second = inl refl

-- no table behind those of an older layout is the office's
apart : (from : OlderLayout) → AllByRecursion (λ t. t.tree ≢ office.tree) (drop (tables_of from) all_tables)
unfolding written_out
apart older.First = ((λ e. cc), ((λ e. cc), ((λ e. cc), ((λ e. cc), ((λ e. cc), ((λ e. cc), ((λ e. cc), ((λ e. cc), tt))))))))
apart older.Second = ((λ e. cc), ((λ e. cc), tt))

-- the missing tables are made, and then the office's row is set
pub becomes : (from : OlderLayout) (d e f : Database) → Extends (tables_of from) d e → Renames e f → BecomesNewest from d f
becomes from d e f made says =
    let first = take (tables_of from) all_tables in
    let rest = drop (tables_of from) all_tables in
    let among : (t : Table) → Has (first ++ rest) t → Has all_tables t = λ t has. subst (λ (ts : List Table). Has ts t) (take-append-drop (tables_of from) all_tables) has in
    let was : d.trees office.tree ≡ e.trees office.tree = sym (all_has _ first office made.kept (book_there from)) in (
      says.layout,
      record {
        named = λ layout society territory name one. says.named layout society territory name (sym (ap (map (values_of office)) was) ∙ one);
        kept = all_from _ first (λ t has other. all_has _ all_tables t says.others (among t (has_left first rest t has)) other ∙ all_has _ first t made.kept has);
        empty = all_from _ rest (λ t has. all_has _ all_tables t says.others (among t (has_right first rest t has)) (all_has _ rest t (apart from) has) ∙ all_has _ rest t made.empty has);
      },
    )
