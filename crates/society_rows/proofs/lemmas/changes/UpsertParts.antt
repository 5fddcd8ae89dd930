-- An upsert as a statement: its parts, in turn.
use Rattle.std.proofs.Common.{◌+◌, ◌≡◌, ℕ, ◌/◌, ℤ, true, false, cond, List, [], ◌∷◌, ◌++◌, length, map, filter, Option, Some, None, Ok, refl, sym, ap, ap₂, subst, ◌∙◌, inl, inr, IsPermutation}
use Rattle.std.specs.List.{AllByRecursion, range_with_len}
use Rattle.std.proofs.lemmas.Bool.{cases_Bool}
use Rattle.sqlite_value.specs.declared.value.Value.{Value}
use Rattle.sqlite_value.specs.declared.value.Value.TheVariants.{Null, Int}
use Rattle.sqlite_value.specs.declared.keys.Collation.TheVariants.{Binary}
use Rattle.sqlite_value.specs.Order.{Row, column}
use Rattle.sqlite_trees.specs.Tree.{Trees, rowid}
use Rattle.sqlite_trees.proofs.ListLemmas.{filter_same}
use Rattle.sqlite_sql.specs.declared.ops.BinaryOp.TheVariants.{Compare}
use Rattle.sqlite_sql.specs.declared.ops.CompareOp.TheVariants.{Eq}
use Rattle.sqlite_sql.specs.Term.{Term, col, op2}
use Rattle.sqlite_schema.specs.declared.program.Program.{Program}
use Rattle.sqlite_schema.specs.declared.schema.Keys.TheVariants.{Enforced}
use Rattle.sqlite_schema.specs.declared.schema.Reference.{Reference}
use Rattle.sqlite_schema.specs.declared.schema.Table.{Table}
use Rattle.sqlite_schema.specs.declared.schema.Schema.{Schema}
use Rattle.sqlite_schema.specs.declared.command.Command.TheVariants.{InsertOr}
use Rattle.sqlite_schema.specs.declared.command.Conflict.TheVariants.{Abort}
use Rattle.sqlite_schema.specs.declared.command.Source.TheVariants.{Values}
use Rattle.sqlite_schema.specs.declared.command.Upsert.{Upsert}
use Rattle.sqlite_schema.specs.Rules.{equal}
use Rattle.sqlite_rules.specs.declared.error.Rowids.TheVariants.{Chosen, Above, Given}
use Rattle.sqlite_rules.specs.declared.error.Refusal.{Refusal}
use Rattle.sqlite_rules.specs.Cast.{cast_row}
use Rattle.sqlite_rules.specs.Edit.{edit_of, taken_by, with_rowid, next_rowid}
use Rattle.sqlite_rules.specs.Keys.{conflicts, AreConflicts}
use Rattle.sqlite_rules.specs.Calls.{ids_of}
use Rattle.sqlite_rules.specs.Lists.{Has}
use Rattle.sqlite_rules.proofs.ListLemmas.{all_from}
use Rattle.sqlite.specs.Effect.{Database, value_rows}
use Rattle.sqlite.specs.Rows.{Task, Written, shown, rowids_for, count_of, Tries, TriesEach, Upserts, Judged, Meets, Clears, Puts as PutsRow, Updates, nothing}
use Rattle.sqlite.specs.Does.{Tally, AtPlace, OnRows}
use Rattle.sqlite.specs.State.{State, mode_of, ExecutesInside}
use Rattle.sqlite.proofs.Callers.{runs_as, one_step}
use Rattle.society_rows.specs.Layouts.{IsFirst, schema_to}
use Rattle.society_rows.specs.Stored.{HasLayout, Puts}
use Rattle.society_rows.proofs.lemmas.definitions.FirstTables.{ordered}
use Rattle.society_rows.proofs.lemmas.readings.Answers.{picked, answers_are, passes_in, shown_in}
use Rattle.society_rows.proofs.lemmas.changes.Inserts.{terms_of, IsSettled, alone_in, uncounted, unstamped}
use Rattle.society_rows.proofs.lemmas.changes.Commands.{IsCommand, command_in}
use Rattle.society_rows.proofs.lemmas.changes.Parts.{went, same_value}
use Rattle.society_rows.proofs.lemmas.changes.References.{no_works}
use Rattle.society_rows.proofs.lemmas.changes.Upserts.{IsUpserted, put_new, put_over, shown_over}

-- DO UPDATE SET every column: it reads the rows with the rowid of the row that is there, which comes behind the parameters
abbrev pub update_of : ℕ → ℕ → List Term → Program
update_of tree place news = record { lets = []; body = picked tree (op2 (Compare Eq Binary) (col 1 0) (col 0 place) ∷ []) (col 1 0 ∷ col 1 0 ∷ news) [] }

abbrev pub clause_of : ℕ → ℕ → List Term → Upsert
clause_of tree place news = record { target = Some (1 ∷ []); update = Some (update_of tree place news) }

-- what the update is given, and what it shows
pub record IsUpdate (table : Table) (params values : Row) (place : ℕ) (news : List Term) : Type 0 where
  pub finds : (there : Value) (id : ℤ) (r : Row) → passes_in (op2 (Compare Eq Binary) (col 1 0) (col 0 place) ∷ []) (params ++ there ∷ shown table (Int id ∷ values)) r ≡ equal Binary (rowid r) there
  pub sets : (there : Value) (id : ℤ) (r : Row) → shown_in (col 1 0 ∷ col 1 0 ∷ news) (params ++ there ∷ shown table (Int id ∷ values)) r ≡ column r 0 ∷ column r 0 ∷ values

module _ (schema : Schema) (laid : IsFirst 14 schema) (table : Table) (at : ℕ) (settled : IsSettled table at) (values : Row) (is : IsUpserted schema table values) (params : Row) (place : ℕ) (news : List Term) (update : IsUpdate table params values place news)
    (limit : Option ℕ) (db : Trees) where
  abbrev task : Task
  task = record { limit = limit; keys = Enforced; schema = schema; table = table; params = params }

  abbrev after : Trees → Database
  after trees = record { schema = schema; trees = trees }

  abbrev Put : Trees → Type 0
  Put trees = Puts table values (after db) (after trees)

  puts_row : (id : ℤ) (one : Written) → AllByRecursion (λ r. equal Binary (column r 1) (column values 0) ≡ false) (db table.tree) → PutsRow task (Int id ∷ values) db (Ok one) → Put one.trees
  puts_row id one none h =
      let done = went h in
      let edit = edit_of db table [] Given 0 ((Int id ∷ values) ∷ []) in
      let applied = one_step schema Enforced db done.0 edit (no_works schema laid table.tree (taken_by db edit) edit.news) done.1 in
      let is_it : done.0 ≡ one.trees = ap (λ (w : Written). w.trees) (sym (same_value done.2)) in
      subst Put is_it (put_new schema laid table values is db id (after done.0) refl none applied)

  clears : (id : ℤ) (one : Written) (found : List Row) → AllByRecursion (λ r. equal Binary (column r 1) (column values 0) ≡ false) (db table.tree) → Clears task Abort (Int id ∷ values) db found (Ok one) → Put one.trees
  clears id one [] none h = puts_row id one none h
  clears id one (x ∷ more) none h = puts_row id one none h

  updates : (id : ℤ) (one : Written) (was : Row) → Has (db table.tree) was → equal Binary (column was 1) (column values 0) ≡ true
      → Updates task (update_of table.tree place news) (params ++ rowid was ∷ shown table (Int id ∷ values)) db (Ok one) → Put one.trees
  updates id one was there hit h =
      let read = went h in
      let done = went read.2 in
      let edit = edit_of db table (ids_of read.0) Given 1 read.0 in
      let applied = one_step schema Enforced db done.0 edit (no_works schema laid table.tree (taken_by db edit) edit.news) done.1 in
      let is_it : done.0 ≡ one.trees = ap (λ (w : Written). w.trees) (sym (same_value done.2)) in
      let answer = answers_are table.tree _ _ [] db (params ++ rowid was ∷ shown table (Int id ∷ values)) read.0 (read.1.answer Null) in
      let given = params ++ rowid was ∷ shown table (Int id ∷ values) in
      let found = filter (λ r. equal Binary (rowid r) (rowid was)) (db table.tree) in
      let seen : IsPermutation (map (shown_over schema laid table values is db) found) read.0 = subst (λ l. IsPermutation l read.0)
      (ap (map (shown_in (col 1 0 ∷ col 1 0 ∷ news) given)) (filter_same (passes_in (op2 (Compare Eq Binary) (col 1 0) (col 0 place) ∷ []) given) (λ r. equal Binary (rowid r) (rowid was)) (db table.tree)
      (all_from _ (db table.tree) (λ r has. update.finds (rowid was) id r))) ∙ (λ i. map (λ r. update.sets (rowid was) id r i) found)) answer in
      subst Put is_it (put_over schema laid table values is db was read.0 (after done.0) refl there hit seen applied)

  abbrev clauses : List Upsert
  clauses = clause_of table.tree place news ∷ []

  meets : (id : ℤ) (one : Written) (found : List Row) → AreConflicts (Some (1 ∷ [])) schema.indexes table (db table.tree) (Int id ∷ values) found
      → Meets task (Upserts task Abort (Int id ∷ values) db []) (Int id ∷ values) db (clause_of table.tree place news) found (Ok one) → Put one.trees
  meets id one [] conf h =
      clears id one h.0 (all_from _ (db table.tree) (λ r has. elim (cases_Bool (conflicts (Some (1 ∷ [])) schema.indexes table (Int id ∷ values) r)) [
        | inl meets_it ↦ absurd (conf.complete r has meets_it)
        | inr free ↦ sym (is.conflicts_are id r) ∙ free
      ])) h.2
  meets id one (there ∷ more) conf h =
      let met = conf.sound there (inl refl) in
      updates id one met.0 met.1 (sym (is.conflicts_are id met.0) ∙ met.2)
      (subst (λ v. Updates task (update_of table.tree place news) (params ++ v ∷ shown table (Int id ∷ values)) db (Ok one)) (ap rowid met.3) h)

  judged : (id : ℤ) (one : Written) (verdict : Option Refusal) → Judged task Abort clauses (Int id ∷ values) db verdict (Ok one) → Put one.trees
  judged id one None h = meets id one h.0 h.1 h.2
  judged id one (Some why) h = absurd (let e = h in cc)

  tries : (id : ℤ) (one : Written) → Tries task Abort clauses (Int id ∷ values) db (Ok one) → Put one.trees
  tries id one (inl refused) = absurd (let e = refused.1 in cc)
  tries id one (inr went_in) = judged id one went_in.0 went_in.2

  tries_each : (top : ℤ) (done : Written × ℤ) → TriesEach task Abort clauses ((Null ∷ values) ∷ []) top (nothing db) (Ok done) → Put done.0.trees
  tries_each top done h =
      let step = went h in
      let chosen : rowids_for table top ≡ Chosen = ap (λ b. cond b (Above top) Chosen) settled.uncounted in
      let new : with_rowid (rowids_for table top) (db table.tree) (cast_row table (Null ∷ values)) ≡ Int (next_rowid (db table.tree)) ∷ values =
      ap₂ (λ k (r : Row). with_rowid k (db table.tree) r) chosen is.cast_none in
      let one = tries (next_rowid (db table.tree)) step.0 (subst (λ r. Tries task Abort clauses r db (Ok step.0)) new step.1) in
      let is_it : step.0.trees ≡ done.0.trees = ap (λ (p : Written × ℤ). p.0.trees) (sym (same_value step.2)) in
      subst Put is_it one

  upserted : (terms : List Term) (width : ℕ) → value_rows params width (length terms / width) terms ≡ (Null ∷ values) ∷ [] → (old : State) (tally : Tally) (new : Database)
      → OnRows task (mode_of old) None (InsertOr at Abort (Values terms width) clauses) db (Ok (tally, new)) → Puts table values (after db) new
  upserted terms width given old tally new h =
      let done = went h in
      let now = ap (λ (p : Tally × Database). p.1) (same_value (went (went done.2).2).2) in
      let sourced = went done.1 in
      let counter = went sourced.2 in
      let tried = went counter.2 in
      let counted = went tried.2 in
      let same : sourced.0 ≡ (Null ∷ values) ∷ [] = sourced.1.1 ∙ ap (λ p. value_rows p width (length terms / width) terms) (unstamped table params settled.unstamped) ∙ given in
      let put = tries_each (count_of counter.0) tried.0 (subst (λ rows. TriesEach task Abort clauses rows (count_of counter.0) (nothing db) (Ok tried.0)) same tried.1) in
      let kept : counted.0 ≡ tried.0.0.trees = same_value (uncounted _ _ table.is_counted _ settled.uncounted counted.1) in
      let trees : done.0.trees ≡ tried.0.0.trees = ap (λ (it : Written). it.trees) (same_value counted.2) ∙ kept in
      let is_new : after tried.0.0.trees ≡ new = sym (now ∙ ap after trees) in
      subst (Puts table values (after db)) is_new put

-- the parameters of a row as a statement has them that writes over it: behind them stand the rowid that is there, and the row that was to be added
abbrev new_terms : Row → List Term
new_terms row = map (col 0) (range_with_len (length row + 2) (length row))

-- the text puts this row into the table at this place, and its values are its parameters
pub record IsPut (table : Table) (at : ℕ) (text : List ℕ) (row : Row) : Type 0 where
  pub is : IsCommand text (length row) (InsertOr at Abort (Values (terms_of table (row ∷ [])) (length table.columns + 1)) (clause_of table.tree (length row) (new_terms row) ∷ []))
  pub given : value_rows row (length table.columns + 1) (length (terms_of table (row ∷ [])) / (length table.columns + 1)) (terms_of table (row ∷ [])) ≡ (Null ∷ row) ∷ []
  pub upserted : (cuts payments : List Reference) → IsUpserted (schema_to 14 cuts payments) table row
  pub update : IsUpdate table row row (length row) (new_terms row)

pub puts : {table : Table} {at : ℕ} {text : List ℕ} {row : Row} (settled : IsSettled table at) → ((cuts payments : List Reference) → settled.refers cuts payments ≡ table.references) → IsPut table at text row
    → (old new : State) (count : ℕ) → HasLayout old.now → ExecutesInside 0 text row old new (Ok count) → Puts table row old.now new.now
puts {table} {at} {text} {row} settled alone put old new count has h =
    let schema = old.now.schema in
    let act = InsertOr at Abort (Values (terms_of table (row ∷ [])) (length table.columns + 1)) (clause_of table.tree (length row) (new_terms row) ∷ []) in
    let it = command_in text _ act put.is schema has in
    let is = subst (λ s. IsUpserted s table row) (sym (ordered has).is) (put.upserted (ordered has).cuts (ordered has).payments) in
    let w = runs_as text row old new schema refl act it.command it.plain count h.0 in
    let db = old.now.trees in
    let task : Task = record { limit = old.step_limit; keys = Enforced; schema = schema; table = table; params = row } in
    let at_table = λ (o : Option Table). AtPlace {X = Table} {A = Tally × Database} (λ t. OnRows (record task { table = t }) (mode_of old) None act db) o (Ok (w.tally, new.now)) in
    upserted schema has table at settled row is row (length row) (new_terms row) put.update old.step_limit db (terms_of table (row ∷ [])) (length table.columns + 1) put.given old w.tally new.now
    (subst at_table (alone_in table at settled alone schema has) w.changed)
