-- INSERT .. ON CONFLICT .. DO UPDATE, which sets every column, for a table under a key of one column.
use Rattle.std.proofs.Common.{◌≡◌, ◌≢◌, ℤ, Bool, true, false, not, true≢false, List, [], ◌∷◌, length, map, filter, drop, Some, refl, sym, ap, ap₂, subst, subst₂, ◌∙◌, inl, inr, IsPermutation, arith}
use Rattle.std.specs.List.{AllByRecursion}
use Rattle.std.specs.Ordering.{is_eq}
use Rattle.std.proofs.lemmas.Bool.{cases_Bool}
use Rattle.std.proofs.lemmas.Cmp.{tied_itself}
use Rattle.std.proofs.lemmas.List.{length-map}
use Rattle.sqlite_value.proofs.OrderLemmas.{value_cmp_total}
use Rattle.std.proofs.lemmas.List.Sorted.{IsPermutation-map, length_permutation}
use Rattle.sqlite_value.specs.declared.value.Value.{Value}
use Rattle.sqlite_value.specs.declared.value.Value.TheVariants.{Null, Int}
use Rattle.sqlite_value.specs.declared.keys.Collation.TheVariants.{Binary}
use Rattle.sqlite_value.specs.Order.{Row, column, value_cmp}
use Rattle.sqlite_trees.specs.Tree.{Trees, rowid, has_rowid}
use Rattle.sqlite_trees.specs.View.{is_int}
use Rattle.sqlite_trees.proofs.ListLemmas.{filter_same, all-permutation}
use Rattle.sqlite_keyed.proofs.ListLemmas.{filter-map, filter_all}
use Rattle.sqlite_schema.specs.declared.schema.Keys.TheVariants.{Enforced}
use Rattle.sqlite_schema.specs.declared.schema.Constraint.TheVariants.{Unique}
use Rattle.sqlite_schema.specs.declared.schema.Schema.{Schema}
use Rattle.sqlite_schema.specs.declared.schema.Table.{Table}
use Rattle.sqlite_schema.specs.Rules.{equal, differ, passes}
use Rattle.sqlite_rules.specs.declared.error.Rowids.TheVariants.{Given}
use Rattle.sqlite_rules.specs.Cast.{cast_row}
use Rattle.sqlite_rules.specs.Edit.{Edit, Applies, edit_of, put_all, without_all, are_fresh, id_in}
use Rattle.sqlite_rules.specs.Keys.{conflicts}
use Rattle.sqlite_rules.specs.Calls.{ids_of}
use Rattle.sqlite_rules.specs.Lists.{Has}
use Rattle.sqlite_rules.proofs.ListLemmas.{all_has, all_from, has_kept, has_filtered}
use Rattle.sqlite_rules.proofs.TableLemmas.{int_is, without_all_has, put_all_keeps, put_all_adds}
use Rattle.sqlite_rules.proofs.PlaceLemmas.{given}
use Rattle.sqlite.specs.Effect.{Database}
use Rattle.society_rows.specs.Layouts.{IsFirst}
use Rattle.society_rows.specs.Stored.{values_of, rows_in, AreNumbered, has_first, Puts}
use Rattle.society_rows.proofs.lemmas.changes.Puts.{put_all_permutes, put_all_numbered}
use Rattle.society_rows.proofs.lemmas.changes.Rowids.{equal_rowid, differ_rowid, same_rowid, fresh_alone}
use Rattle.society_rows.proofs.lemmas.definitions.FirstTables.{all_laid}

abbrev is_number : Row → Type 0
is_number r = is_int (rowid r) ≡ true

-- what an upsert asks of its table in a schema, and of the row that it writes
pub record IsUpserted (schema : Schema) (table : Table) (values : Row) : Type 0 where
  -- the row is stored as it is
  pub cast_none : cast_row table (Null ∷ values) ≡ Null ∷ values
  pub cast_some : (id : ℤ) → cast_row table (Int id ∷ values) ≡ Int id ∷ values
  pub shows : (id : ℤ) → values_of table (Int id ∷ values) ≡ values
  -- the key is the first column, which has a unique index and nothing else has
  pub first : (r : Row) → column (values_of table r) 0 ≡ column r 1
  pub conflicts_are : (id : ℤ) (r : Row) → conflicts (Some (1 ∷ [])) schema.indexes table (Int id ∷ values) r ≡ equal Binary (column r 1) (column values 0)
  pub unique : (db : Trees) (id : ℤ) (r : Row) → passes Unique schema db table (Int id ∷ values) ≡ true → Has (db table.tree) r → equal Binary (column r 1) (column values 0) ≡ true
      → differ (rowid r) (Int id) ≡ false
  pub listed : Has schema.tables table

map_same : {X Y : Type 0} (f : X → Y) (y : Y) (xs : List X) → AllByRecursion (λ x. f x ≡ y) xs → AllByRecursion (λ z. z ≡ y) (map f xs)
map_same f y [] all = tt
map_same f y (x ∷ xs) all = (all.0, map_same f y xs all.1)

alone : {X : Type 0} (xs : List X) (x : X) → length xs ≡ 1 → Has xs x → xs ≡ x ∷ []
alone [] x one has = absurd has
alone (y ∷ []) x one (inl e) = ap (λ z. z ∷ []) (sym e)
alone (y ∷ []) x one (inr none) = absurd none
alone (y ∷ z ∷ xs) x one has = absurd (omega arith)

none_has : {X : Type 0} (xs : List X) (x : X) → length xs ≡ 0 → Has xs x → ⊥
none_has [] x none has = has
none_has (y ∷ xs) x none has = omega arith

module _ (schema : Schema) (laid : IsFirst 14 schema) (table : Table) (values : Row) (is : IsUpserted schema table values) (db : Trees) where
  abbrev key : Value
  key = column values 0

  abbrev same : Row → Bool
  same r = equal Binary (column r 1) key

  -- the rows of other keys, as they show and as they are stored
  others_show : filter (λ r. not (has_first key r)) (rows_in table db) ≡ map (values_of table) (filter (λ r. not (same r)) (db table.tree))
  others_show =
      filter-map (λ r. not (has_first key r)) (values_of table) (db table.tree)
      ∙ ap (map (values_of table)) (filter_same (λ x. not (has_first key (values_of table x))) (λ x. not (same x)) (db table.tree) (all_from _ (db table.tree) (λ x has. ap (λ v. not (equal Binary v key)) (is.first x))))

  -- the edit put the row under a rowid that was left free
  put_as : (id : ℤ) (left : List Row) (new : Database) → new.schema ≡ schema → are_fresh left ((Int id ∷ values) ∷ []) ≡ true → new.trees table.tree ≡ put_all left ((Int id ∷ values) ∷ [])
      → left ≡ filter (λ r. not (same r)) (db table.tree) → IsPermutation (values ∷ filter (λ r. not (has_first key r)) (rows_in table db)) (rows_in table new.trees)
  put_as id left new has fresh rows left_is =
      subst₂ (λ (x y : List Row). IsPermutation x y) (ap₂ (λ (v : Row) (vs : List Row). v ∷ vs) (is.shows id) (ap (map (values_of table)) left_is ∙ sym others_show)) (ap (map (values_of table)) (sym rows))
      (IsPermutation-map (values_of table) ((Int id ∷ values) ∷ left) _ (put_all_permutes ((Int id ∷ values) ∷ []) left fresh))

  -- no row had the key
  pub put_new : (id : ℤ) (new : Database) → new.schema ≡ schema → AllByRecursion (λ r. same r ≡ false) (db table.tree) → Applies schema Enforced db (edit_of db table [] Given 0 ((Int id ∷ values) ∷ [])) new.trees
      → Puts table values (record { schema = schema; trees = db }) new
  put_new id new has none h =
      let news : (edit_of db table [] Given 0 ((Int id ∷ values) ∷ [])).news ≡ (Int id ∷ values) ∷ [] = given (db table.tree) _ ∙ ap (λ (r : Row). r ∷ []) (is.cast_some id) in
      record {
        layout = subst (IsFirst 14) (sym has) laid;
        rows = λ _. put_as id (db table.tree) new has (subst (λ n. are_fresh (db table.tree) n ≡ true) news h.fresh) (h.rows ∙ ap (put_all (db table.tree)) news)
            (sym (filter_all (λ r. not (same r)) (db table.tree) (all_from _ (db table.tree) (λ x there. ap not (all_has _ (db table.tree) x none there)))));
        numbered = λ old. subst (AllByRecursion is_number) (sym h.rows) (put_all_numbered (edit_of db table [] Given 0 ((Int id ∷ values) ∷ [])).news (db table.tree) h.keyed old);
        others = all_laid (λ n. n ≢ table.tree → new.trees n ≡ db n) schema laid h.tables;
      }

  -- the one row that had the rowid gave way
  over_one : (id : ℤ) (was : Row) (rows : List Row) (new : Database) → new.schema ≡ schema → AreNumbered table db → Has (db table.tree) was → same was ≡ true
      → rows ≡ (Int id ∷ Int id ∷ values) ∷ [] → filter (has_rowid id) (db table.tree) ≡ was ∷ [] → Applies schema Enforced db (edit_of db table (ids_of rows) Given 1 rows) new.trees
      → IsPermutation (values ∷ filter (λ r. not (has_first key r)) (rows_in table db)) (rows_in table new.trees)
  over_one id was rows new has old there hit one only h =
      let done : Applies schema Enforced db (edit_of db table (id ∷ []) Given 1 ((Int id ∷ Int id ∷ values) ∷ [])) new.trees = subst (λ l. Applies schema Enforced db (edit_of db table (ids_of l) Given 1 l) new.trees) one h in
      let left = filter (λ r. not (has_rowid id r)) (db table.tree) in
      let news : (edit_of db table (id ∷ []) Given 1 ((Int id ∷ Int id ∷ values) ∷ [])).news ≡ (Int id ∷ values) ∷ [] = given left _ ∙ ap (λ (r : Row). r ∷ []) (is.cast_some id) in
      let fresh : are_fresh left ((Int id ∷ values) ∷ []) ≡ true = subst (λ n. are_fresh left n ≡ true) news done.fresh in
      let put : new.trees table.tree ≡ put_all left ((Int id ∷ values) ∷ []) = done.rows ∙ ap (put_all left) news in
      let here : Has (new.trees table.tree) (Int id ∷ values) = subst (λ l. Has l (Int id ∷ values)) (sym put) (put_all_adds ((Int id ∷ values) ∷ []) left (Int id ∷ values) fresh (inl refl)) in
      let rule = all_has _ schema.tables table (done.fits.rules Unique (λ e. cc)) is.listed in
      let passing : passes Unique schema new.trees table (Int id ∷ values) ≡ true = all_has _ (new.trees table.tree) (Int id ∷ values) rule here in
      let apart : (r : Row) → Has (db table.tree) r → has_rowid id r ≡ false → same r ≡ true → ⊥ = λ r in_table other key_is.
      let stays = subst (λ l. Has l r) (sym put) (put_all_keeps ((Int id ∷ values) ∷ []) left r fresh (has_kept (λ x. not (has_rowid id x)) (db table.tree) r in_table (ap not other))) in
      let far = is.unique new.trees id r passing stays key_is in
      true≢false (sym (ap not other) ∙ sym (differ_rowid (rowid r) id (all_has _ (db table.tree) r old in_table)) ∙ far) in
      let alike : (r : Row) → Has (db table.tree) r → not (has_rowid id r) ≡ not (same r) = λ r in_table. elim (cases_Bool (has_rowid id r)) [
        | inl mine ↦
            let found = subst (λ l. Has l r) only (has_kept (has_rowid id) (db table.tree) r in_table mine) in
            let it : r ≡ was = elim found [ inl e ↦ e | inr none ↦ absurd none ] in
            ap not (mine ∙ sym (ap same it ∙ hit))
        | inr other ↦ elim (cases_Bool (same r)) [ inl key_is ↦ absurd (apart r in_table other key_is) | inr not_key ↦ ap not (other ∙ sym not_key) ]
      ] in
      put_as id left new has fresh put (filter_same (λ r. not (has_rowid id r)) (λ r. not (same r)) (db table.tree) (all_from _ (db table.tree) alike))

  abbrev pub shown_over : Row → Row
  shown_over r = column r 0 ∷ column r 0 ∷ values

  -- the query shows one row
  one_shown : (id : ℤ) (rows : List Row) → AllByRecursion (λ x. x ≡ (Int id ∷ Int id ∷ values)) rows → (length rows ≡ 0 → ⊥)
      → (edit : Edit) → edit ≡ edit_of db table (ids_of rows) Given 1 rows → are_fresh (without_all (db table.tree) (ids_of rows)) edit.news ≡ true → rows ≡ (Int id ∷ Int id ∷ values) ∷ []
  one_shown id [] all some edit at fresh = absurd (some refl)
  one_shown id (x ∷ []) all some edit at fresh = ap (λ (r : Row). r ∷ []) all.0
  one_shown id (x ∷ y ∷ more) all some edit at fresh =
      let stored = λ (r : Row). cast_row table (drop 1 r) in
      let left = without_all (db table.tree) (ids_of (x ∷ y ∷ more)) in
      let news : edit.news ≡ stored x ∷ stored y ∷ map stored more = ap (λ (e : Edit). e.news) at ∙ given left _ in
      let P : List Row → Type 0 = λ n. are_fresh left n ≡ true in
      let each : AllByRecursion (λ r. rowid r ≡ Int id) (stored x ∷ stored y ∷ map stored more) =
      rows_named (x ∷ y ∷ more) all in
      absurd (let e = fresh_alone id left (stored y ∷ map stored more) (stored x) (subst P news fresh) each in cc)
    where
      rows_named : (rs : List Row) → AllByRecursion (λ r. r ≡ (Int id ∷ Int id ∷ values)) rs → AllByRecursion (λ r. rowid r ≡ Int id) (map (λ r. cast_row table (drop 1 r)) rs)
      rows_named [] none = tt
      rows_named (r ∷ rs) h = (ap (λ (l : Row). rowid (cast_row table (drop 1 l))) h.0 ∙ ap rowid (is.cast_some id), rows_named rs h.1)

  -- a row had the key, and the query shows the rows with its rowid
  pub put_over : (was : Row) (rows : List Row) (new : Database) → new.schema ≡ schema → Has (db table.tree) was → same was ≡ true
      → IsPermutation (map shown_over (filter (λ r. equal Binary (rowid r) (rowid was)) (db table.tree))) rows
      → Applies schema Enforced db (edit_of db table (ids_of rows) Given 1 rows) new.trees → Puts table values (record { schema = schema; trees = db }) new
  put_over was rows new has there hit shown h = record {
    layout = subst (IsFirst 14) (sym has) laid;
    rows = λ old.
        let id = id_in (rowid was) in
        let named : rowid was ≡ Int id = int_is (rowid was) (all_has _ (db table.tree) was old there) in
        let alike : filter (λ r. equal Binary (rowid r) (rowid was)) (db table.tree) ≡ filter (has_rowid id) (db table.tree) =
        filter_same (λ r. equal Binary (rowid r) (rowid was)) (has_rowid id) (db table.tree)
        (all_from _ (db table.tree) (λ r in_table. ap (equal Binary (rowid r)) named ∙ equal_rowid (rowid r) id (all_has _ (db table.tree) r old in_table))) in
        let found = filter (has_rowid id) (db table.tree) in
        let answer : IsPermutation (map shown_over found) rows = subst (λ l. IsPermutation (map shown_over l) rows) alike shown in
        let each : AllByRecursion (λ x. shown_over x ≡ (Int id ∷ Int id ∷ values)) found = all_from _ found (λ r in_found.
        let back = has_filtered (has_rowid id) (db table.tree) r in_found in
        ap (λ (v : Value). v ∷ v ∷ values) (same_rowid (rowid r) id (all_has _ (db table.tree) r old back.0) back.1)) in
        let all = all-permutation (λ x. x ≡ (Int id ∷ Int id ∷ values)) (map shown_over found) rows answer (map_same shown_over (Int id ∷ Int id ∷ values) found each) in
        let mine : Has found was = has_kept (has_rowid id) (db table.tree) was there (ap (λ v. is_eq (value_cmp v (Int id))) named ∙ ap is_eq (tied_itself value_cmp_total (Int id))) in
        let long : length rows ≡ length found = length_permutation _ _ answer ∙ length-map found shown_over in
        let one = one_shown id rows all (λ none. none_has found was (sym long ∙ none) mine) _ refl h.fresh in
        over_one id was rows new has old there hit one (alone found was (sym long ∙ ap length one) mine) h;
    numbered = λ old.
        let edit = edit_of db table (ids_of rows) Given 1 rows in
        let left = without_all (db table.tree) (ids_of rows) in
        subst (AllByRecursion is_number) (sym h.rows) (put_all_numbered edit.news left h.keyed (all_from _ left (λ x in_left. all_has _ (db table.tree) x old (without_all_has (ids_of rows) (db table.tree) x in_left))));
    others = all_laid (λ n. n ≢ table.tree → new.trees n ≡ db n) schema laid h.tables;
  }
