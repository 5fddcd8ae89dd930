-- Which tables a database has of which the first ones are known.
use Rattle.std.proofs.Common.{◌≡◌, ◌⊎◌, ◌∙◌, ℕ, zero, suc, ◌+◌, ◌-◌, ◌<◌, ◌≤◌, List, [], ◌∷◌, ◌++◌, length, get_or, map, filter, nat_lt, take, drop, reverse, inl, inr, refl, sym, ap, subst, lit≤, arith, append-nil, append_assoc}
use Rattle.std.specs.List.{AllByRecursion, fold}
use Rattle.std.specs.List.{range_with_len}
use Rattle.std.proofs.lemmas.List.FromFn.{get_or-map-range_with_len}
use Rattle.std.proofs.lemmas.List.{get_or-map, length-take-le, take-take, take-append-drop}
use Rattle.sqlite_schema.specs.declared.schema.Index.{Index}
use Rattle.sqlite_schema.specs.declared.schema.Reference.{Reference}
use Rattle.sqlite_schema.specs.declared.schema.Schema.{Schema}
use Rattle.sqlite_schema.specs.declared.schema.Table.{Table}
use Rattle.sqlite_catalog.specs.Change.{automatics, created, next_tree}
use Rattle.sqlite.specs.Effect.{Database}
use Rattle.society_rows.specs.declared.tables.TableName.{TableName}
use Rattle.society_rows.specs.declared.tables.TableName.TheVariants as name
use Rattle.society_rows.specs.Layout.{all_names, all_tables, office, pool_cuts, pool_returns, written_out, no_schema, table_called, table_with, tables_with}
use Rattle.society_rows.specs.Layouts.{HasFirst, IsFirst, IsFirstWith, HasTable, HasTables, schema_to, first_table_count}
use Rattle.society_rows.specs.Stored.{HasLayout}

-- tables take the trees that they name
abbrev AllPlaced : Schema → List Table → Type 0
AllPlaced schema [] = Unit {0}
AllPlaced schema (t ∷ ts) = (t.tree ≡ next_tree schema) × AllPlaced (created schema t) ts

all_placed : (cuts payments : List Reference) → AllPlaced no_schema (tables_with cuts payments)
unfolding written_out
all_placed cuts payments = (refl, (refl, (refl, (refl, (refl, (refl, (refl, (refl, (refl, (refl, (refl, (refl, (refl, (refl, tt))))))))))))))

tables_to : (schema : Schema) (ts : List Table) (count : ℕ) → AllPlaced schema ts → (fold created schema (take count ts)).tables ≡ schema.tables ++ take count ts
tables_to schema ts zero all = sym (append-nil schema.tables)
tables_to schema [] (suc n) all = sym (append-nil schema.tables)
tables_to schema (t ∷ ts) (suc n) all =
    let placed : Table = record t { tree = next_tree schema } in
    let is : placed ≡ t = ap (λ (at : ℕ). let x : Table = record t { tree = at } in x) (sym all.0) in
    tables_to (created schema t) ts n all.1 ∙ ap (λ (x : Table). (schema.tables ++ x ∷ []) ++ take n ts) is ∙ append_assoc schema.tables (t ∷ []) (take n ts)

views_to : (schema : Schema) (ts : List Table) (count : ℕ) → (fold created schema (take count ts)).views ≡ schema.views
views_to schema ts zero = refl
views_to schema [] (suc n) = refl
views_to schema (t ∷ ts) (suc n) = views_to (created schema t) ts n

-- the tables of the schema are the first ones
pub tables_are : (count : ℕ) (cuts payments : List Reference) → (schema_to count cuts payments).tables ≡ take count (tables_with cuts payments)
tables_are count cuts payments = tables_to no_schema (tables_with cuts payments) count (all_placed cuts payments)

-- the indexes for the keys of tables
abbrev pub guards_of : List Table → List Index
guards_of [] = []
guards_of (t ∷ ts) = automatics t 0 (t.tree + 1) t.uniques ++ guards_of ts

indexes_to : (schema : Schema) (ts : List Table) (count : ℕ) → AllPlaced schema ts → (fold created schema (take count ts)).indexes ≡ schema.indexes ++ guards_of (take count ts)
indexes_to schema ts zero all = sym (append-nil schema.indexes)
indexes_to schema [] (suc n) all = sym (append-nil schema.indexes)
indexes_to schema (t ∷ ts) (suc n) all =
    let placed : Table = record t { tree = next_tree schema } in
    let is : placed ≡ t = ap (λ (at : ℕ). let x : Table = record t { tree = at } in x) (sym all.0) in
    let guards = λ (x : Table). automatics x 0 (x.tree + 1) x.uniques in
    indexes_to (created schema t) ts n all.1 ∙ ap (λ x. (schema.indexes ++ guards x) ++ guards_of (take n ts)) is ∙ append_assoc schema.indexes (guards t) (guards_of (take n ts))

-- a schema with these tables and indexes, and with no view
pub schema_by : (schema : Schema) (tables : List Table) (indexes : List Index) → schema.tables ≡ tables → schema.indexes ≡ indexes → schema.views ≡ [] → schema ≡ record { tables = tables; indexes = indexes; views = [] }
schema_by schema tables indexes ts is none = λ i. record { tables = ts i; indexes = is i; views = none i }

-- the schema is its tables and the indexes for their keys
pub schema_is : (count : ℕ) (cuts payments : List Reference)
    → let ts = take count (tables_with cuts payments) in schema_to count cuts payments ≡ record { tables = ts; indexes = guards_of ts; views = [] }
schema_is count cuts payments =
    let all = tables_with cuts payments in
    schema_by (schema_to count cuts payments) _ _ (tables_are count cuts payments) (indexes_to no_schema all count (all_placed cuts payments)) (views_to no_schema all count)

-- the references of cuts and of payments, each in one of two orders, with which a schema has the first tables
pub record IsOrdered (count : ℕ) (schema : Schema) : Type 0 where
  pub cuts : List Reference
  pub payments : List Reference
  pub cuts_are : (cuts ≡ pool_cuts.references) ⊎ (cuts ≡ reverse pool_cuts.references)
  pub payments_are : (payments ≡ pool_returns.references) ⊎ (payments ≡ reverse pool_returns.references)
  pub is : schema ≡ schema_to count cuts payments

with_payments : (count : ℕ) (schema : Schema) (cuts : List Reference) → (cuts ≡ pool_cuts.references) ⊎ (cuts ≡ reverse pool_cuts.references) → IsFirstWith count cuts schema → IsOrdered count schema
with_payments count schema cuts order (inl is) = record { cuts = cuts; payments = pool_returns.references; cuts_are = order; payments_are = inl refl; is = is }
with_payments count schema cuts order (inr is) = record { cuts = cuts; payments = reverse pool_returns.references; cuts_are = order; payments_are = inr refl; is = is }

ordered_by : (count : ℕ) (schema : Schema) → IsFirstWith count pool_cuts.references schema ⊎ IsFirstWith count (reverse pool_cuts.references) schema → IsOrdered count schema
ordered_by count schema (inl made) = with_payments count schema pool_cuts.references (inl refl) made
ordered_by count schema (inr made) = with_payments count schema (reverse pool_cuts.references) (inr refl) made

pub ordered : {count : ℕ} {schema : Schema} → IsFirst count schema → IsOrdered count schema
unfolding IsFirst
ordered {count} {schema} first = ordered_by count schema first

first_with : (count : ℕ) (schema : Schema) (cuts payments : List Reference) → (payments ≡ pool_returns.references) ⊎ (payments ≡ reverse pool_returns.references) → schema ≡ schema_to count cuts payments → IsFirstWith count cuts schema
first_with count schema cuts payments (inl order) is = inl (subst (λ p. schema ≡ schema_to count cuts p) order is)
first_with count schema cuts payments (inr order) is = inr (subst (λ p. schema ≡ schema_to count cuts p) order is)

first_by : (count : ℕ) (schema : Schema) (cuts : List Reference) → (cuts ≡ pool_cuts.references) ⊎ (cuts ≡ reverse pool_cuts.references) → IsFirstWith count cuts schema → IsFirst count schema
unfolding IsFirst
first_by count schema cuts (inl order) made = inl (subst (λ c. IsFirstWith count c schema) order made)
first_by count schema cuts (inr order) made = inr (subst (λ c. IsFirstWith count c schema) order made)

pub first_of : {count : ℕ} {schema : Schema} → IsOrdered count schema → IsFirst count schema
first_of {count} {schema} it = first_by count schema it.cuts it.cuts_are (first_with count schema it.cuts it.payments it.payments_are it.is)

-- of more first tables fewer are first too
pub has_tables : (fewer count : ℕ) → fewer ≤ count → (db : Database) → HasFirst count db → HasTables fewer db
has_tables fewer count low db first_ones =
    let has = ordered first_ones in
    let all = tables_with has.cuts has.payments in
    let first = take count all in
    let split : first ≡ take fewer all ++ drop fewer first = sym (take-append-drop fewer first) ∙ ap (λ ts. ts ++ drop fewer first) (take-take fewer count all low) in
    record {
      cuts = has.cuts;
      payments = has.payments;
      more = drop fewer first;
      indexes = guards_of first;
      is = has.is ∙ schema_is count has.cuts has.payments ∙ ap (λ (ts : List Table). let s : Schema = record { tables = ts; indexes = guards_of first; views = [] } in s) split;
    }

pub longer : (cuts payments : List Reference) → length (tables_with cuts payments) ≡ 14
unfolding written_out
longer cuts payments = refl

-- the table that is made at a place
abbrev pub name_in : ℕ → TableName
name_in at = get_or all_names at name.Office

pub named : (cuts payments : List Reference) (at : ℕ) → at < 14 → get_or (tables_with cuts payments) at office ≡ table_with cuts payments (name_in at)
unfolding tables_with
named cuts payments at within = get_or-map (table_with cuts payments) all_names at name.Office office within

pub all_named : (at : ℕ) → at < 14 → get_or all_tables at office ≡ table_called (name_in at)
unfolding all_tables
all_named at within = get_or-map table_called all_names at name.Office office within

-- what is read of each table in turn is the same as of their places
placed_as : (f : TableName → ℕ) (g : ℕ → ℕ) → map f all_names ≡ map g (range_with_len 0 14) → (at : ℕ) → at < 14 → f (name_in at) ≡ g at
placed_as f g same at within = sym (get_or-map f all_names at name.Office 0 within) ∙ ap (λ l. get_or l at 0) same ∙ get_or-map-range_with_len g 0 14 at at 0 within (omega arith)

-- how many tables are made before a table
abbrev pub place : TableName → ℕ
place name = length (filter (λ (t : Table). nat_lt t.tree (table_called name).tree) all_tables)

pub place_at : (at : ℕ) → at < 14 → place (name_in at) ≡ at
unfolding written_out
place_at = placed_as place (λ at. at) refl

-- its tree is behind those of the tables and of the indexes before it
pub tree_at : (cuts payments : List Reference) (at : ℕ) → at < 14 → (table_with cuts payments (name_in at)).tree ≡ at + length (guards_of (take at (tables_with cuts payments)))
unfolding written_out
tree_at cuts payments = placed_as (λ name. (table_with cuts payments name).tree) (λ at. at + length (guards_of (take at (tables_with cuts payments)))) refl

pub guards_few : (cuts payments : List Reference) (at : ℕ) → at < 14 → length (guards_of (take at (tables_with cuts payments))) ≤ 14
unfolding written_out
guards_few cuts payments at within =
    let e : 0 ≡ length (guards_of (take at (tables_with cuts payments))) - 14 = placed_as (λ _. 0) (λ at. length (guards_of (take at (tables_with cuts payments))) - 14) refl at within in
    omega (arith, e)

-- a database of so many first tables has that many tables
pub first_long : (count : ℕ) → count ≤ 14 → (db : Database) → HasFirst count db → length db.schema.tables ≡ count
first_long count low db first_ones =
    let has = ordered first_ones in
    let all = tables_with has.cuts has.payments in
    ap (λ (s : Schema). length s.tables) has.is ∙ ap length (tables_are count has.cuts has.payments) ∙ length-take-le count all (omega (arith, longer has.cuts has.payments))

since_one : (table : TableName) → first_table_count table ≤ 14
since_one name.Office = lit≤ tt
since_one name.Transmissions = lit≤ tt
since_one name.Returns = lit≤ tt
since_one name.Pools = lit≤ tt
since_one name.PoolCuts = lit≤ tt
since_one name.PoolReturns = lit≤ tt
since_one name.Fronts = lit≤ tt
since_one name.Verdicts = lit≤ tt
since_one name.Versions = lit≤ tt
since_one name.Recordings = lit≤ tt
since_one name.Credits = lit≤ tt
since_one name.Balances = lit≤ tt
since_one name.SegmentEnds = lit≤ tt
since_one name.MechanicalPools = lit≤ tt

-- layout 3 has every table
pub has_table : (table : TableName) (db : Database) → HasLayout db → HasTable table db
has_table table = has_tables (first_table_count table) 14 (since_one table)

-- what is so of the tree of each table of layout 3 is so of the tree of every table
pub all_laid : (P : ℕ → Type 0) (schema : Schema) → IsFirst 14 schema → AllByRecursion (λ t. P t.tree) schema.tables → AllByRecursion (λ t. P t.tree) all_tables
unfolding written_out
all_laid P schema laid all = subst (λ (s : Schema). AllByRecursion (λ t. P t.tree) s.tables) (ordered laid).is all
