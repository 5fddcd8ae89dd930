-- What the parts of a write are refused for.
use Rattle.std.proofs.Common.{◌≡◌, ◌⊎◌, ℕ, ℤ, Bool, true, false, MatchBool, List, [], ◌∷◌, slice_get, Option, Some, None, IsSome, option_map, Ok, Err, refl, subst, inl, inr}
use Rattle.sqlite_value.specs.Order.{Row}
use Rattle.sqlite_trees.specs.Tree.{Trees}
use Rattle.sqlite_schema.specs.declared.command.Command.TheVariants.{Insert, InsertOr, Update}
use Rattle.sqlite_schema.specs.declared.command.Conflict.{Conflict}
use Rattle.sqlite_schema.specs.declared.command.Conflict.TheVariants.{Abort, Ignore, Replace}
use Rattle.sqlite_schema.specs.declared.command.Source.{Source}
use Rattle.sqlite_schema.specs.declared.command.Source.TheVariants as source
use Rattle.sqlite_schema.specs.declared.command.Upsert.{Upsert}
use Rattle.sqlite_schema.specs.declared.program.Program.{Program}
use Rattle.sqlite_schema.specs.declared.schema.Constraint.TheVariants.{ForeignKey}
use Rattle.sqlite_schema.specs.declared.schema.Among.{Among}
use Rattle.sqlite_schema.specs.declared.schema.Keys.{Keys}
use Rattle.sqlite_schema.specs.declared.schema.Schema.{Schema}
use Rattle.sqlite_schema.specs.declared.schema.Table.{Table}
use Rattle.sqlite_schema.specs.Rules.{Refers}
use Rattle.sqlite_rules.specs.declared.error.Refusal.{Refusal}
use Rattle.sqlite_rules.specs.declared.error.Refusal.TheVariants as why
use Rattle.sqlite_rules.specs.Edit.{Edit}
use Rattle.sqlite.specs.declared.error.Error.{Error}
use Rattle.sqlite.specs.declared.error.Error.TheVariants.{SqliteFailure}
use Rattle.sqlite.specs.declared.error.ErrorCode.TheVariants as code
use Rattle.sqlite.specs.declared.run.Mode.{Mode}
use Rattle.sqlite.specs.Does.{AtPlace, Concludes, Does, OnRows, Tally, Tested}
use Rattle.sqlite.specs.Effect.{Database, edit_error}
use Rattle.sqlite.specs.Rows.{Outcome, Part, Clears, Counter, Counts, Edited, Gives, Inserts, InsertsOr, Judged, Meets, Puts, Resolves, Sourced, Task, Tries, TriesEach, Updates, Upserts, Written, nothing, passes_over}
use Rattle.society_rows.specs.Stored.{HasLayout}
use Rattle.society_rows.proofs.lemmas.errors.Failures.{IsCoded, refused_coded, unblamed}
use Rattle.society_rows.proofs.lemmas.changes.Inserts.{IsSettled, listed_in, table_in, uncounted}

abbrev AreCoded : Type 0 → {A : Type 0} → Part A → Type 0
AreCoded May P = (e : Error) → P (Err (Some e)) → IsCoded May e

-- a part that stopped, or that went on to the next
pub stopped : {May B R : Type 0} {Stops : Option Error → Type 0} (e : Error) → ((stop : Option Error) × Stops stop × (◌≡◌ {A = Outcome B} (Err (Some e)) (Err stop))) ⊎ R → (Stops (Some e) → IsCoded May e) → (R → IsCoded May e) → IsCoded May e
stopped {Stops = Stops} e (inl h) first next =
    let same : h.0 ≡ Some e = let is = h.2 in cc in
    first (subst Stops same h.1)
stopped e (inr on) first next = next on

pub gave : {May B : Type 0} {b : B} (e : Error) → ◌≡◌ {A = Outcome B} (Err (Some e)) (Ok b) → IsCoded May e
gave e is = absurd cc

refused : {May : Type 0} (e f : Error) {B : Type 0} → ◌≡◌ {A = Outcome B} (Err (Some e)) (Err (Some f)) → IsCoded May f → IsCoded May e
refused {May} e f is coded = let same : f ≡ e = cc in subst (IsCoded May) same coded

pub unmatched : (A B : Type 0) (b : Bool) → b ≡ false → MatchBool b A B → B
unmatched A B true is h = absurd cc
unmatched A B false is h = h

edit_coded : {May : Type 0} (why : Refusal) → IsCoded May (edit_error why)
edit_coded (why.Violates rule) = (code.ConstraintViolation rule, refl, unblamed)
edit_coded why.Mismatch = (code.TypeMismatch, refl, unblamed)
edit_coded why.NoRowid = (code.NoRowid, refl, unblamed)
edit_coded why.BadReference = (code.ForeignKeyMismatch, refl, unblamed)
edit_coded why.TooDeep = (code.TooDeep, refl, unblamed)

edited_coded : {May : Type 0} (schema : Schema) (keys : Keys) (db : Trees) (edit : Edit) → AreCoded May (Edited schema keys db edit)
edited_coded {May} schema keys db edit e h = on h.0 h.2
  where
    on : (w : Option Refusal) → Some e ≡ option_map edit_error w → IsCoded May e
    on None is = absurd cc
    on (Some r) is = let same : edit_error r ≡ e = cc in subst (IsCoded May) same (edit_coded r)

sourced_coded : {May : Type 0} (limit : Option ℕ) → (IsSome limit → May) → (db : Database) (params : Row) (from : Source) → AreCoded May (Sourced limit db params from)
sourced_coded limit may db params (source.Values terms width) e (inl h) = (code.TypeMismatch, h.0, unblamed)
sourced_coded limit may db params (source.Values terms width) e (inr h) = (code.OperationInterrupted, h.0, λ tells. may h.1)
sourced_coded limit may db params (source.Query q) e h = refused_coded limit may db q params e h

tested_coded : {May : Type 0} (mode : Mode) (Holds : Among → Type 0) → AreCoded May (Tested mode Holds)
tested_coded mode Holds e h = let same : e ≡ SqliteFailure (code.ConstraintViolation ForeignKey) = let is = h.1 in cc in (code.ConstraintViolation ForeignKey, same, unblamed)

concluded_coded : {May : Type 0} (task : Task) (mode : Mode) (w : Written) → AreCoded May (Concludes task mode None w)
concluded_coded task mode w e h = stopped e h (tested_coded mode (λ among. Refers among task.schema w.trees) e) (λ on. stopped e on.2 (λ is. gave {b = []} e is) (λ more. gave e more.2))

-- ---- INSERT

module _ (May : Type 0) (task : Task) (may : IsSome task.limit → May) (free : task.table.is_counted ≡ false) where
  abbrev seen : Trees → Database
  seen db = record { schema = task.schema; trees = db }

  counter_coded : (db : Trees) → AreCoded May (Counter task db)
  counter_coded db e h = gave e (unmatched _ _ task.table.is_counted free h)

  counts_coded : (db : Trees) (counter : Option Row) (top : ℤ) → AreCoded May (Counts task db counter top)
  counts_coded db counter top e h = gave e (uncounted _ _ task.table.is_counted _ free h)

  inserts_coded : (from : Source) (db : Trees) → AreCoded May (Inserts task from db)
  inserts_coded from db e h =
      stopped e h (sourced_coded task.limit may (seen db) _ from e) (λ rows. stopped e rows.2 (counter_coded db e) (λ counter. stopped e counter.2 (edited_coded task.schema task.keys db _ e)
      (λ mid. stopped e mid.2 (counts_coded mid.0 counter.0 _ e) (λ next. gave e next.2))))

  puts_coded : (new : Row) (db : Trees) → AreCoded May (Puts task new db)
  puts_coded new db e h = stopped e h (edited_coded task.schema task.keys db _ e) (λ next. gave e next.2)

  clears_coded : (way : Conflict) (new : Row) (db : Trees) (found : List Row) → AreCoded May (Clears task way new db found)
  clears_coded way new db [] e h = puts_coded new db e h
  clears_coded Abort new db (x ∷ more) e h = puts_coded new db e h
  clears_coded Ignore new db (x ∷ more) e h = gave e h
  clears_coded Replace new db (x ∷ more) e h = stopped e h (edited_coded task.schema task.keys db _ e) (λ next. puts_coded new next.0 e next.2)

  updates_coded : (q : Program) (given : Row) (db : Trees) → AreCoded May (Updates task q given db)
  updates_coded q given db e h =
      stopped e h (refused_coded task.limit may (seen db) q given e) (λ rows. stopped e rows.2 (edited_coded task.schema task.keys db _ e) (λ next. gave e next.2))

  resolves_coded : (new : Row) (db : Trees) (there : Row) (update : Option Program) → AreCoded May (Resolves task new db there update)
  resolves_coded new db there None e h = gave e h
  resolves_coded new db there (Some q) e h = updates_coded q _ db e h

  meets_coded : (Otherwise : Part Written) → AreCoded May Otherwise → (new : Row) (db : Trees) (clause : Upsert) (found : List Row) → AreCoded May (Meets task Otherwise new db clause found)
  meets_coded Otherwise coded new db clause [] e h = coded e h
  meets_coded Otherwise coded new db clause (there ∷ more) e h = resolves_coded new db there clause.update e h

  upserts_coded : (way : Conflict) (new : Row) (db : Trees) (clauses : List Upsert) → AreCoded May (Upserts task way new db clauses)
  upserts_coded way new db [] e h = clears_coded way new db h.0 e h.2
  upserts_coded way new db (clause ∷ more) e h = meets_coded (Upserts task way new db more) (upserts_coded way new db more) new db clause h.0 e h.2

  judged_coded : (way : Conflict) (clauses : List Upsert) (new : Row) (db : Trees) (verdict : Option Refusal) → AreCoded May (Judged task way clauses new db verdict)
  judged_coded way clauses new db None e h = upserts_coded way new db clauses e h
  judged_coded way clauses new db (Some r) e h = on (passes_over way r) h
    where
      on : (b : Bool) → MatchBool b (Gives {A = Written} (nothing db) (Err (Some e))) (◌≡◌ {A = Outcome Written} (Err (Some e)) (Err (Some (edit_error r)))) → IsCoded May e
      on true m = gave e m
      on false m = refused e (edit_error r) m (edit_coded r)

  tries_coded : (way : Conflict) (clauses : List Upsert) (new : Row) (db : Trees) → AreCoded May (Tries task way clauses new db)
  tries_coded way clauses new db e (inl h) = refused e _ h.1 (code.NoRowid, refl, unblamed)
  tries_coded way clauses new db e (inr h) = judged_coded way clauses new db h.0 e h.2

  tries_each_coded : (way : Conflict) (clauses : List Upsert) (sources : List Row) (top : ℤ) (done : Written) → AreCoded May (TriesEach task way clauses sources top done)
  tries_each_coded way clauses [] top done e h = gave e h
  tries_each_coded way clauses (source ∷ more) top done e h = stopped e h (tries_coded way clauses _ done.trees e) (λ one. tries_each_coded way clauses more _ _ e one.2)

  inserts_or_coded : (way : Conflict) (clauses : List Upsert) (from : Source) (db : Trees) → AreCoded May (InsertsOr task way clauses from db)
  inserts_or_coded way clauses from db e h =
      stopped e h (sourced_coded task.limit may (seen db) _ from e) (λ rows. stopped e rows.2 (counter_coded db e) (λ counter. stopped e counter.2 (tries_each_coded way clauses rows.0 _ _ e)
      (λ done. stopped e done.2 (counts_coded done.0.0.trees counter.0 done.0.1 e) (λ next. gave e next.2))))

module _ (May : Type 0) (table : Table) (at : ℕ) (settled : IsSettled table at) (limit : Option ℕ) (may : IsSome limit → May) (mode : Mode) (params : Row) (db : Database) (has : HasLayout db) (text : List ℕ) where
  abbrev this : Task
  this = record { limit = limit; keys = mode.keys; schema = db.schema; table = table_in table at settled db.schema has; params = params }

  -- the table stands at that place of the layout
  placed : (P : Task → Part (Tally × Database)) (out : Outcome (Tally × Database)) → AtPlace (λ t. P (record this { table = t })) (slice_get db.schema.tables at) out → P this out
  placed P out h = subst (λ o. AtPlace {X = Table} {A = Tally × Database} (λ t. P (record this { table = t })) o out) (listed_in table at settled db.schema has) h

  pub insert_coded : (from : Source) → AreCoded May (Does limit mode params db text None (Insert at from))
  insert_coded from e h =
      stopped e (placed (λ task. OnRows task mode None (Insert at from) db.trees) (Err (Some e)) h) (inserts_coded May this may settled.uncounted from db.trees e) (λ w. concluded_coded this mode w.0 e w.2)

  pub insert_or_coded : (way : Conflict) (clauses : List Upsert) (from : Source) → AreCoded May (Does limit mode params db text None (InsertOr at way from clauses))
  insert_or_coded way clauses from e h =
      stopped e (placed (λ task. OnRows task mode None (InsertOr at way from clauses) db.trees) (Err (Some e)) h) (inserts_or_coded May this may settled.uncounted way clauses from db.trees e)
      (λ w. concluded_coded this mode w.0 e w.2)

  pub update_coded : (q : Program) → AreCoded May (Does limit mode params db text None (Update at q))
  update_coded q e h =
      stopped e (placed (λ task. OnRows task mode None (Update at q) db.trees) (Err (Some e)) h) (updates_coded May this may settled.uncounted q params db.trees e)
      (λ w. concluded_coded this mode w.0 e w.2)
