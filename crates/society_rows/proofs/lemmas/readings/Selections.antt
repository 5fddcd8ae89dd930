-- Queries of one table, and what each finds.
use Rattle.std.proofs.Common.{◌≡◌, ℕ, Bool, true, inl, inr, List, [], ◌∷◌, map, take, length, refl, ap, subst, IsPermutation}
use Rattle.std.specs.List.{range_with_len}
use Rattle.sqlite_trees.proofs.ListLemmas.{filter_all}
use Rattle.sqlite_rules.proofs.ListLemmas.{all_from}
use Rattle.sqlite_value.specs.declared.keys.Collation.TheVariants.{Binary}
use Rattle.sqlite_value.specs.declared.keys.Key.{Key}
use Rattle.sqlite_value.specs.Keys.{ascending, rising}
use Rattle.sqlite_value.specs.Order.{Row, column}
use Rattle.sqlite_trees.specs.Tree.{Trees}
use Rattle.sqlite_sql.specs.Program.{overlay}
use Rattle.sqlite_sql.specs.Query.{key_cmp, sort_cmp}
use Rattle.sqlite_sql.specs.Term.{Term, Env, col, op2, eval_all}
use Rattle.sqlite_schema.specs.declared.schema.Column.{Column}
use Rattle.sqlite_schema.specs.declared.schema.Table.{Table}
use Rattle.sqlite_schema.specs.Names.{place_of}
use Rattle.society_rows.specs.Finding.{is_same}
use Rattle.society_rows.specs.Reads.{Lists, ListsKeys, IsFirstOf, falling}
use Rattle.society_rows.specs.Stored.{values_of}
use Rattle.society_rows.proofs.lemmas.readings.Answers.{picked, picked_first, passes_in, shown_in, answers_are, first_answer}
use Rattle.society_rows.proofs.lemmas.readings.CutRows.{whole_answer}
use Rattle.society_rows.proofs.lemmas.readings.Queries.{IsReading, IsSelectOver, IsShowing, listed}

-- so many of the first columns of a table
abbrev pub columns : Table → ℕ → List Term
columns table count = map (λ at. col 1 (place_of table at)) (range_with_len 0 count)

-- and their names
abbrev pub names_of : Table → ℕ → List (List ℕ)
names_of table count = take count (map (λ (c : Column). c.name) table.columns)

-- so many of the first columns are the parameters
abbrev pub keyed_by : Table → ℕ → List Term
keyed_by table count = map (λ at. op2 is_same (col 1 (place_of table at)) (col 0 at)) (range_with_len 0 count)

-- all of them
abbrev pub all_columns : Table → List Term
all_columns table = columns table (length table.columns)

abbrev pub by_columns : Key → Table → ℕ → List (Term × Key)
by_columns key table width = map (λ t. (t, key)) (columns table width)

-- each row in the order of its first columns
abbrev pub ascending_by : Table → ℕ → List (Term × Key)
ascending_by = by_columns (ascending Binary)

abbrev pub descending_by : Table → ℕ → List (Term × Key)
descending_by = by_columns (record { collation = Binary; descending = true })

pub shows_columns : (ats : List ℕ) (table : Table) (params r : Row) → eval_all (map (λ at. col 1 (place_of table at)) ats) (params ∷ r ∷ []) ≡ map (λ at. column r (place_of table at)) ats
shows_columns [] table params r = refl
shows_columns (at ∷ ats) table params r = ap (λ l. column r (place_of table at) ∷ l) (shows_columns ats table params r)

-- the rows come in such an order
abbrev Orders : Table → Row → List (Term × Key) → List Key → Type 0
Orders table params order keys =
    (a b : Row) → sort_cmp order (params ∷ a ∷ []) (params ∷ b ∷ []) ≡ key_cmp 0 keys (shown_in (all_columns table) params a) (shown_in (all_columns table) params b)

-- these rows pass
abbrev Tests : Table → Row → List Term → (Row → Bool) → Type 0
Tests table params filters passes = (r : Row) → passes (values_of table r) ≡ passes_in filters params r

showing : (table : Table) (params : Row) {filters : List Term} {passes : Row → Bool} {order : List (Term × Key)} {keys : List Key} → Tests table params filters passes → Orders table params order keys
    → IsShowing table filters (all_columns table) order params passes keys
showing table params tests orders = record { shows = shows_columns (range_with_len 0 (length table.columns)) table params; tests = tests; orders = orders }

module _ {tables : ℕ} {text : List ℕ} {params : Row} (table : Table) (filters : List Term) {passes : Row → Bool} (width : ℕ) (tests : Tests table params filters passes) where
  -- whole rows
  pub lists : Orders table params (ascending_by table width) (rising width []) → IsSelectOver tables text params (picked table.tree filters (all_columns table) (ascending_by table width)) (names_of table (length table.columns))
      → IsReading tables params text (Lists table passes width)
  lists orders under = record {
    query = picked table.tree filters (all_columns table) (ascending_by table width);
    names = names_of table (length table.columns);
    under = under;
    sums = λ db over. elim over [ inl none ↦ none | inr more ↦ more.4 ];
    finds = λ db rows a.
        let found = listed table filters (all_columns table) (ascending_by table width) params passes (rising width []) (showing table params tests orders) db rows a in
        record { rows = found.0; sorted = found.1 };
  }

  -- their first columns alone
  pub lists_keys : Orders table params (ascending_by table width) (rising width []) → ((env : Env) → eval_all (columns table width) env ≡ take width (eval_all (all_columns table) env))
      → IsSelectOver tables text params (picked table.tree filters (columns table width) (ascending_by table width)) (names_of table width) → IsReading tables params text (ListsKeys table passes width)
  lists_keys orders cuts under = record {
    query = picked table.tree filters (columns table width) (ascending_by table width);
    names = names_of table width;
    under = under;
    sums = λ db over. elim over [ inl none ↦ none | inr more ↦ more.4 ];
    finds = λ db rows a.
        let whole = whole_answer table.tree filters (all_columns table) (columns table width) (ascending_by table width) width cuts (overlay db []) params rows a in
        let found = listed table filters (all_columns table) (ascending_by table width) params passes (rising width []) (showing table params tests orders) db whole.0 whole.1 in
        record { whole = whole.0; listed = record { rows = found.0; sorted = found.1 }; cut = whole.2 };
  }

  -- the greatest row alone
  pub lists_first : Orders table params (descending_by table width) (falling width) → IsSelectOver tables text params (picked_first table.tree filters (all_columns table) (descending_by table width)) (names_of table (length table.columns))
      → IsReading tables params text (IsFirstOf table passes width)
  lists_first orders under = record {
    query = picked_first table.tree filters (all_columns table) (descending_by table width);
    names = names_of table (length table.columns);
    under = under;
    sums = λ db over. elim over [ inl none ↦ none | inr more ↦ more.4 ];
    finds = λ db rows a.
        let first = first_answer table.tree filters (all_columns table) (descending_by table width) (overlay db []) params rows a in
        let found = listed table filters (all_columns table) (descending_by table width) params passes (falling width) (showing table params tests orders) db first.0 first.1 in
        record { all = first.0; rows = found.0; sorted = found.1; first = first.2 };
  }

-- one column of each row, in any order
pub lists_column : {tables : ℕ} {text : List ℕ} (tree at : ℕ) (names : List (List ℕ)) → IsSelectOver tables text [] (picked tree [] (col 1 at ∷ []) []) names
    → IsReading tables [] text (λ db. IsPermutation (map (λ r. column r at ∷ []) (db tree)))
lists_column tree at names under = record {
  query = picked tree [] (col 1 at ∷ []) [];
  names = names;
  under = under;
  sums = λ db over. elim over [ inl none ↦ none | inr more ↦ more.4 ];
  finds = λ db rows a.
      subst (λ (l : List Row). IsPermutation (map (λ r. column r at ∷ []) l) rows) (filter_all (passes_in [] []) (db tree) (all_from _ (db tree) (λ r has_it. refl))) (answers_are tree [] (col 1 at ∷ []) [] db [] rows a);
}

-- what is found, said otherwise
pub finds_as : {tables : ℕ} {params : Row} {text : List ℕ} {Found Is : Trees → List Row → Type 0} (it : IsReading tables params text Found) → ((db : Trees) (rows : List Row) → Found db rows → Is db rows) → IsReading tables params text Is
finds_as it turns = record { query = it.query; names = it.names; under = it.under; sums = it.sums; finds = λ db rows a. turns db rows (it.finds db rows a) }
