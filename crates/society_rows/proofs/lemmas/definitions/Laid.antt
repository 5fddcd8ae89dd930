-- A schema that is gone over table by table, beside that of so many first tables.
use Rattle.std.proofs.Common.{Bool, ◌≡◌, ◌∙◌, ℕ, ◌+◌, ◌<◌, ◌≤◌, List, [], ◌∷◌, ◌++◌, length, get_or, slice_get, take, drop, Some, sym, ap, subst, arith, append-nil, append_assoc}
use Rattle.std.proofs.lemmas.List.{get_or_default, get_or-take, length-take-le, take_all, take_more, take-take, take-append-drop}
use Rattle.std.proofs.lemmas.Option.{get_or_from_slice_get, slice_get_within}
use Rattle.sqlite_schema.specs.declared.schema.Index.{Index}
use Rattle.sqlite_schema.specs.declared.schema.Reference.{Reference}
use Rattle.sqlite_schema.specs.declared.schema.Schema.{Schema}
use Rattle.sqlite_schema.specs.declared.schema.Table.{Table}
use Rattle.sqlite_catalog.specs.Change.{automatics}
use Rattle.society_rows.specs.declared.tables.TableName.{TableName}
use Rattle.society_rows.specs.Layout.{office, pool_cuts, pool_returns, tables_with}
use Rattle.society_rows.specs.Shapes.{in_order, schema_turned, table_turned}
use Rattle.society_rows.proofs.lemmas.definitions.FirstTables.{guards_few, guards_of, longer, name_in, named, schema_by, schema_is, tree_at}

guards_append : (xs ys : List Table) → guards_of (xs ++ ys) ≡ guards_of xs ++ guards_of ys
guards_append [] ys = λ i. guards_of ys
guards_append (x ∷ xs) ys =
    let own = automatics x 0 (x.tree + 1) x.uniques in
    ap (λ l. own ++ l) (guards_append xs ys) ∙ sym (append_assoc own (guards_of xs) (guards_of ys))

-- what stands behind the first items of a list
next_is : {X : Type 0} (xs first more : List X) (x : X) → xs ≡ (first ++ x ∷ []) ++ more → slice_get xs (length first) ≡ Some x
next_is xs [] more x is = ap (λ l. slice_get l 0) is
next_is [] (y ∷ first) more x is = absurd cc
next_is (z ∷ xs) (y ∷ first) more x is = next_is xs first more x (let rest : xs ≡ (first ++ x ∷ []) ++ more = cc in rest)

pub one_index : (is first : List Index) (g : Index) → take (length first) is ≡ first → slice_get is (length first) ≡ Some g → take (length first + 1) is ≡ first ++ g ∷ []
one_index is first g same there =
    take_more is (length first) g (slice_get_within is (length first) g there) ∙ (λ i. same i ++ get_or_from_slice_get is (length first) g g there i ∷ [])

module _ (cuts payments : Bool) where
  abbrev cut : List Reference
  cut = in_order cuts pool_cuts.references

  abbrev paid : List Reference
  paid = in_order payments pool_returns.references

  abbrev pub all : List Table
  all = tables_with cut paid

  -- the indexes for the keys of so many first tables
  abbrev pub before : ℕ → List Index
  before at = guards_of (take at all)

  -- the table at a place, in the tree that is next
  abbrev pub next : ℕ → Table
  next at = record (table_turned cuts payments (name_in at)) { tree = at + length (before at) }

  abbrev pub guards_next : ℕ → List Index
  guards_next at = automatics (next at) 0 (at + length (before at) + 1) (next at).uniques

  -- what code finds of the table and its index, by its name and by how many indexes there are so far
  pub next_by : (at : ℕ) (name : TableName) (guards : ℕ) → name ≡ name_in at → guards ≡ length (before at) → record (table_turned cuts payments name) { tree = at + guards } ≡ next at
  next_by at name guards is count = λ i. let t : Table = record (table_turned cuts payments (is i)) { tree = at + count i } in t

  pub guards_by : (at : ℕ) (name : TableName) (guards : ℕ) → name ≡ name_in at → guards ≡ length (before at) → guards_next at ≡ automatics (record (table_turned cuts payments name) { tree = at + guards }) 0 (at + guards + 1) (table_turned cuts payments name).uniques
  guards_by at name guards is count =
      sym (λ i. let t : Table = record (table_turned cuts payments (is i)) { tree = at + count i } in automatics t 0 (at + count i + 1) t.uniques)

  pub next_at : (at : ℕ) → at < 14 → get_or all at office ≡ next at
  next_at at within =
      named cut paid at within ∙ ap (λ n. let t : Table = record (table_turned cuts payments (name_in at)) { tree = n } in t) (tree_at cut paid at within)

  one_table : (at : ℕ) → at < 14 → take (at + 1) all ≡ take at all ++ next at ∷ []
  one_table at within = take_more all at office (omega (arith, within, longer cut paid)) ∙ ap (λ t. take at all ++ t ∷ []) (next_at at within)

  pub few_before : (at : ℕ) → at < 14 → length (before at) ≤ 14
  few_before = guards_few cut paid

  pub before_next : (at : ℕ) → at < 14 → before (at + 1) ≡ before at ++ guards_next at
  before_next at within = ap guards_of (one_table at within) ∙ guards_append (take at all) (next at ∷ []) ∙ ap (λ l. before at ++ l) (append-nil (guards_next at))

  pub tables_next : (xs : List Table) (at : ℕ) → at < length xs → at < 14 → (x : Table) → x ≡ get_or xs at x → x ≡ next at → take at xs ≡ take at all → take (at + 1) xs ≡ take (at + 1) all
  tables_next xs at here within x is new same =
      take_more xs at x here ∙ (λ i. same i ++ (sym is ∙ new) i ∷ []) ∙ sym (one_table at within)

  module _ (schema : Schema) (count : ℕ) (low : count ≤ 14) (made : schema ≡ schema_turned count cuts payments) where
    is : schema ≡ record { tables = take count all; indexes = before count; views = [] }
    is = made ∙ schema_is count cut paid

    pub count_is : length schema.tables ≡ count
    count_is = ap (λ (s : Schema). length s.tables) is ∙ length-take-le count all (omega (arith, low, longer cut paid))

    pub table_there : (at : ℕ) → at < count → (x : Table) → x ≡ get_or schema.tables at x → x ≡ next at
    table_there at within x here =
        here ∙ ap (λ (s : Schema). get_or s.tables at x) is ∙ get_or-take count all at x within ∙ get_or_default all at x office (omega (arith, within, low, longer cut paid)) ∙ next_at at (omega (arith, within, low))

    pub guard_there : (at : ℕ) → at < count → (g : Index) → guards_next at ≡ g ∷ [] → slice_get schema.indexes (length (before at)) ≡ Some g
    guard_there at within g only =
        let more = drop (at + 1) (take count all) in
        let split : take count all ≡ take (at + 1) all ++ more = sym (take-append-drop (at + 1) (take count all)) ∙ ap (λ l. l ++ more) (take-take (at + 1) count all (omega (arith, within))) in
        next_is schema.indexes (before at) (guards_of more) g
        (ap (λ (s : Schema). s.indexes) is ∙ ap guards_of split ∙ guards_append (take (at + 1) all) more ∙ ap (λ l. l ++ guards_of more) (before_next at (omega (arith, within, low)) ∙ ap (λ l. before at ++ l) only))

    pub rest_is : (schema.indexes ≡ before count) × (schema.views ≡ [])
    rest_is = (ap (λ (s : Schema). s.indexes) is, ap (λ (s : Schema). s.views) is)

  -- a schema that has the tables and the indexes, and no view
  pub whole : (schema : Schema) (count at : ℕ) → at ≡ count → length schema.tables ≡ count → take at schema.tables ≡ take at all → take (length schema.indexes) schema.indexes ≡ before at → schema.views ≡ [] → schema ≡ schema_turned count cuts payments
  whole schema count at end long tables indexes views =
      schema_by schema _ _ (sym (take_all count schema.tables (omega (arith, long))) ∙ subst (λ n. take n schema.tables ≡ take n all) end tables)
      (sym (take_all (length schema.indexes) schema.indexes (omega arith)) ∙ indexes ∙ ap before end) views
      ∙ sym (schema_is count cut paid)
