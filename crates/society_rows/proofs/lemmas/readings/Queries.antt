-- Readings in a transaction.
use Rattle.std.proofs.Common.{lit≤, length, ◌≡◌, ◌⊎◌, ℕ, Bool, true, false, IsTrue, if◌then◌else◌, List, [], ◌∷◌, map, filter, Vec, Option, None, Some, Result, Ok, Err, IfOk, OnOk, OnErr, refl, sym, ap, subst, ◌∙◌, inl, inr, IsPermutation, IsSorted}
use Rattle.std.specs.declared.alloc.Global.{Global}
use Rattle.sqlite_value.specs.declared.value.Value.TheVariants.{Null}
use Rattle.sqlite_value.specs.declared.keys.Key.{Key}
use Rattle.sqlite_value.specs.Order.{Row}
use Rattle.sqlite_trees.specs.Tree.{Trees}
use Rattle.sqlite_trees.proofs.ListLemmas.{filter_same}
use Rattle.sqlite_keyed.proofs.ListLemmas.{filter-map}
use Rattle.sqlite_rules.proofs.ListLemmas.{all_from}
use Rattle.sqlite_sql.specs.Term.{Term}
use Rattle.sqlite_sql.specs.Query.{Query, key_cmp, sort_cmp, IsAnswer}
use Rattle.sqlite_sql.specs.Program.{overlay, ProgramOverflows}
use Rattle.sqlite_typing.specs.Types.{accepts_program}
use Rattle.sqlite_schema.specs.declared.schema.Index.{Index}
use Rattle.sqlite_schema.specs.declared.schema.Reference.{Reference}
use Rattle.sqlite_schema.specs.declared.schema.Schema.{Schema}
use Rattle.sqlite_schema.specs.declared.schema.Table.{Table}
use Rattle.sqlite_schema.specs.declared.command.Command.TheVariants.{Select}
use Rattle.sqlite.specs.declared.error.Error.{Error}
use Rattle.sqlite.specs.Effect.{Database}
use Rattle.sqlite.specs.Listing.{understood, reads_listing}
use Rattle.sqlite.specs.State.{State, HasCleanDisk, IsUnchanged, IsRolledBack, KeepsCommit, Survives, Shown, ShowsRows, FailsToShow, FailsToQuery, IsNotRun}
use Rattle.sqlite.specs.Clock.{timed}
use Rattle.sqlite.proofs.Callers.{IsPlain, reads_as}
use Rattle.society_rows.specs.declared.fault.RowFault.{RowFault}
use Rattle.society_rows.specs.Layouts.{HasTables, schema_from}
use Rattle.society_rows.specs.Stored.{values_of, rows_in, HasLayout}
use Rattle.society_rows.specs.Reads.{Reads, ReadsOver, Selected}
use Rattle.society_rows.proofs.lemmas.definitions.FirstTables.{has_tables}
use Rattle.society_rows.proofs.lemmas.changes.Commands.{IsCommandOf, Statement, is_command, one_statement, statement_in}
use Rattle.society_rows.proofs.lemmas.readings.Answers.{picked, passes_in, shown_in, answers_are, answers_sorted}

-- under the schema the text is this query, which takes these parameters
pub record IsSelect (schema : Schema) (text : List ℕ) (params : Row) (query : Query) (names : List (List ℕ)) : Type 0 where
  pub is : IsCommandOf schema text (length params) (Select (record { lets = []; body = query }) names)
  pub unlisted : reads_listing schema text ≡ false
  pub typed : accepts_program schema [] query params ≡ true

-- what a text is that may be a query: its statement, whether it asks for the listing of tables, and whether the query takes these parameters
abbrev Seen : Type 0
Seen = Option Statement × Bool × Bool

abbrev pub seen : List ℕ → Row → Query → Schema → Seen
seen text params query schema = (statement_in (understood schema text), reads_listing schema text, accepts_program schema [] query params)

abbrev pub one_query : List ℕ → Row → Query → List (List ℕ) → Seen
one_query text params query names = (one_statement text (length params) (Select (record { lets = []; body = query }) names), false, true)

-- it is this query where so many of the first tables are there, whatever is behind them
abbrev pub IsSelectOver : ℕ → List ℕ → Row → Query → List (List ℕ) → Type 0
IsSelectOver tables text params query names =
    (cuts payments : List Reference) (more : List Table) (indexes : List Index) → seen text params query (schema_from tables cuts payments more indexes) ≡ one_query text params query names

-- The text is one query, which sums nothing, and what its answers are. It stands behind the parameters, so that these are known when it is
-- compiled: the terms that are left else grow past every limit.
pub record IsReading (tables : ℕ) (params : Row) (text : List ℕ) (Found : Trees → List Row → Type 0) : Type 0 where
  pub query : Query
  pub names : List (List ℕ)
  pub under : IsSelectOver tables text params query names
  pub sums : (db : Trees) → ProgramOverflows db params [] [] query → ⊥
  pub finds : (db : Trees) (rows : List Row) → IsAnswer query (overlay db []) params rows → Found db rows

pub select_in : {tables : ℕ} {text : List ℕ} {params : Row} {Found : Trees → List Row → Type 0} (it : IsReading tables params text Found) (db : Database) → HasTables tables db → IsSelect db.schema text params it.query it.names
select_in {text = text} {params = params} it db has =
    let all = ap (seen text params it.query) has.is ∙ it.under has.cuts has.payments has.more has.indexes in
    record {
      is = is_command db.schema text (length params) (Select (record { lets = []; body = it.query }) it.names) (ap (λ (p : Seen). p.0) all);
      unlisted = ap (λ (p : Seen). p.1) all;
      typed = ap (λ (p : Seen). p.2) all;
    }

-- layout 3 has all tables
pub laid : (db : Database) → HasLayout db → HasTables 14 db
laid = has_tables 14 14 (lit≤ tt)

-- the query shows whole rows of the table, those that pass, in the order of their first columns by these keys
pub record IsShowing (table : Table) (filters project : List Term) (order : List (Term × Key)) (params : Row) (passes : Row → Bool) (keys : List Key) : Type 0 where
  pub shows : (r : Row) → shown_in project params r ≡ values_of table r
  pub tests : (r : Row) → passes (values_of table r) ≡ passes_in filters params r
  pub orders : (a b : Row) → sort_cmp order (params ∷ a ∷ []) (params ∷ b ∷ []) ≡ key_cmp 0 keys (shown_in project params a) (shown_in project params b)

-- the rows that the query shows are those that pass, in their order
pub listed : (table : Table) (filters project : List Term) (order : List (Term × Key)) (params : Row) (passes : Row → Bool) (keys : List Key) → IsShowing table filters project order params passes keys
    → (db : Trees) (rows : List Row) → IsAnswer (picked table.tree filters project order) (overlay db []) params rows → IsPermutation (filter passes (rows_in table db)) rows × IsSorted (key_cmp 0 keys) rows
listed table filters project order params passes keys listing db rows a =
    let kept : map (shown_in project params) (filter (passes_in filters params) (db table.tree)) ≡ filter passes (rows_in table db) =
    (λ i. map (λ r. listing.shows r i) (filter (passes_in filters params) (db table.tree)))
    ∙ ap (map (values_of table)) (sym (filter_same (λ r. passes (values_of table r)) (passes_in filters params) (db table.tree) (all_from _ (db table.tree) (λ r has_it. listing.tests r))))
    ∙ sym (filter-map passes (values_of table) (db table.tree)) in (
      subst (λ l. IsPermutation l rows) kept (answers_are table.tree filters project order db params rows a),
      answers_sorted table.tree filters project order db params (key_cmp 0 keys) listing.orders rows a,
    )

shown_same : (text : List ℕ) (params : Row) (old new : State) (rows : List Row) → IsPlain (understood old.now.schema text) → Shown text params old new rows → IsUnchanged old new
unfolding Shown
shown_same text params old new rows plain h =
    let bare = subst IsPlain h.1.is plain in
    (subst (ShowsRows old new text h.0 (timed params h.0.formats h.1.now) rows) bare.0 h.2).3

failed_show : (text : List ℕ) (params : Row) (old new : State) (error : Error) (c : _) (returning : Option _) → FailsToShow old new text c params error returning → IsUnchanged old new ⊎ IsRolledBack old new
failed_show text params old new error c None h = inl h.3
failed_show text params old new error c (Some what) (inl refused) = inl refused.1
failed_show text params old new error c (Some what) (inr failed) = inr failed.3

failed_query : (text : List ℕ) (params : Row) (old new : State) (error : Error) → FailsToQuery text params old new error → IsUnchanged old new ⊎ IsRolledBack old new
unfolding FailsToQuery IsNotRun
failed_query text params old new error (inl (inl none)) = inl none.1
failed_query text params old new error (inl (inr failed)) = inr failed.3
failed_query text params old new error (inr ran) = failed_show text _ old new error ran.0 ran.0.returning ran.2

-- what was shown came from an open connection, and in a transaction it committed nothing
open_by : (old new : State) (text : List ℕ) (params : Row) (rows : List Row) (c : _) (returning : Option _) → ShowsRows old new text c params rows returning → IsTrue old.is_open
open_by old new text params rows c None h = h.3.0.was_open
open_by old new text params rows c (Some what) h = h.1.shown.was_open

keeps_by : (old new : State) (text : List ℕ) (params : Row) (rows : List Row) (c : _) (returning : Option _) → old.in_transaction ≡ true → ShowsRows old new text c params rows returning → KeepsCommit old new
keeps_by old new text params rows c None inside h = record { was_open = λ _. h.3.0.was_open; committed = λ _. h.3.0.committed_is }
keeps_by old new text params rows c (Some what) inside h =
    record { was_open = λ _. h.1.shown.was_open; committed = λ _. h.1.shown.committed_is ∙ ap (λ b. if b then old.committed else new.now) inside }

shown_open : (text : List ℕ) (params : Row) (old new : State) (rows : List Row) → Shown text params old new rows → IsTrue old.is_open
unfolding Shown
shown_open text params old new rows h = open_by old new text _ rows h.0 h.0.returning h.2

shown_keeps : (text : List ℕ) (params : Row) (old new : State) (rows : List Row) → old.in_transaction ≡ true → Shown text params old new rows → KeepsCommit old new
unfolding Shown
shown_keeps text params old new rows inside h = keeps_by old new text _ rows h.0 h.0.returning inside h.2

mode_by : (old new : State) (text : List ℕ) (params : Row) (rows : List Row) (c : _) (returning : Option _) → ShowsRows old new text c params rows returning → new.in_transaction ≡ old.in_transaction
mode_by old new text params rows c None h = h.3.0.mode
mode_by old new text params rows c (Some what) h = h.1.shown.mode

shown_inside : (text : List ℕ) (params : Row) (old new : State) (rows : List Row) → Shown text params old new rows → new.in_transaction ≡ old.in_transaction
unfolding Shown
shown_inside text params old new rows h = mode_by old new text _ rows h.0 h.0.returning h.2

failed_keeps : (old new : State) → IsUnchanged old new ⊎ IsRolledBack old new → KeepsCommit old new
failed_keeps old new (inl h) = record { was_open = λ _. h.0.was_open; committed = λ _. h.0.committed_is }
failed_keeps old new (inr h) = record { was_open = h.was_open; committed = λ opened. (h.undone opened).1 }

-- a query whose rows are what is looked for is such a reading
pub reads_by : (Was : Database → Type 0) (text : List ℕ) (params : Row) (old new : State) (result : Result (Vec Row Global) RowFault) (Found : Trees → Vec Row Global → Type 0)
    → (Was old.now → IsPlain (understood old.now.schema text)) → (HasCleanDisk new → Selected text params old new result) → Survives old new (λ _. ⊥)
    → ((rows : Vec Row Global) → Was old.now → Shown text params old new rows.items → Found old.now.trees rows) → ReadsOver Was old new result Found
reads_by Was text params old new result Found plain selected survives finds = record {
  found = λ clean has. on_found result has (selected clean);
  same = λ clean has. on_same result has (selected clean);
  whole = λ clean. on_failed result (selected clean);
  was_open = λ clean. on_open result (selected clean);
  inside = λ clean inside. on_inside result inside (selected clean);
  kept = λ clean inside. on_kept result inside (selected clean);
  survives = survives;
}
  where
    on_found : (r : Result (Vec Row Global) RowFault) → Was old.now → Selected text params old new r → IfOk r (Found old.now.trees)
    on_found (Ok rows) has h = finds rows has h
    on_found (Err fault) has h = tt

    on_same : (r : Result (Vec Row Global) RowFault) → Was old.now → Selected text params old new r → OnOk r (IsUnchanged old new)
    on_same (Ok rows) has h = shown_same text params old new rows.items (plain has) h
    on_same (Err fault) has h = tt

    on_failed : (r : Result (Vec Row Global) RowFault) → Selected text params old new r → OnErr r (IsUnchanged old new ⊎ IsRolledBack old new)
    on_failed (Ok rows) h = tt
    on_failed (Err fault) h = elim h.2 [ inl failed ↦ failed_query text params old new h.0 failed | inr late ↦ inl late.5 ]

    on_open : (r : Result (Vec Row Global) RowFault) → Selected text params old new r → OnOk r (IsTrue old.is_open)
    on_open (Ok rows) h = shown_open text params old new rows.items h
    on_open (Err fault) h = tt

    on_kept : (r : Result (Vec Row Global) RowFault) → old.in_transaction ≡ true → Selected text params old new r → KeepsCommit old new
    on_kept (Ok rows) inside h = shown_keeps text params old new rows.items inside h
    on_kept (Err fault) inside h = failed_keeps old new (elim h.2 [ inl failed ↦ failed_query text params old new h.0 failed | inr late ↦ inl late.5 ])

    on_inside : (r : Result (Vec Row Global) RowFault) → old.in_transaction ≡ true → Selected text params old new r → OnOk r (new.in_transaction ≡ true)
    on_inside (Ok rows) inside h = shown_inside text params old new rows.items h ∙ inside
    on_inside (Err fault) inside h = tt

-- what a reading of one query finds
pub reads : {tables : ℕ} {text : List ℕ} {params : Row} {Found : Trees → List Row → Type 0} → IsReading tables params text Found → (old new : State) (result : Result (Vec Row Global) RowFault)
    → (HasCleanDisk new → Selected text params old new result) → Survives old new (λ _. ⊥) → ReadsOver (HasTables tables) old new result (λ db rows. Found db rows.items)
reads {tables} {text} {params} {Found} it old new result selected survives =
    reads_by (HasTables tables) text params old new result (λ db rows. Found db rows.items) (λ has. (select_in it old.now has).is.plain) selected survives
    (λ rows has h.
    let is = select_in it old.now has in
    it.finds old.now.trees rows.items ((reads_as text params old new old.now.schema refl (Select (record { lets = []; body = it.query }) it.names) is.is.command is.is.plain is.unlisted rows.items h).answer Null))

-- what is so of a kind of database is so of a narrower one
pub reads_where : {X : Type 0} (Was Is : Database → Type 0) (old new : State) (result : Result X RowFault) (Found : Trees → X → Type 0) → (Is old.now → Was old.now) → ReadsOver Was old new result Found → ReadsOver Is old new result Found
reads_where Was Is old new result Found turns read = record {
  found = λ clean has. read.found clean (turns has);
  same = λ clean has. read.same clean (turns has);
  whole = read.whole;
  was_open = read.was_open;
  inside = read.inside;
  kept = read.kept;
  survives = read.survives;
}

-- the same over layout 3
pub reads_laid : {text : List ℕ} {params : Row} {Found : Trees → List Row → Type 0} → IsReading 14 params text Found → (old new : State) (result : Result (Vec Row Global) RowFault)
    → (HasCleanDisk new → Selected text params old new result) → Survives old new (λ _. ⊥) → Reads old new result (λ db rows. Found db rows.items)
reads_laid it old new result selected survives = reads_where (HasTables 14) HasLayout old new result _ (laid old.now) (reads it old new result selected survives)
