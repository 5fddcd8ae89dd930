-- What the tables have under a name in their first column.
use Rattle.std.proofs.Common.{◌≡◌, ◌∙◌, ℕ, Bool, true, false, cond, List, [], ◌∷◌, refl, ap, IsPermutation}
use Rattle.std.specs.List.{AllByRecursion}
use Rattle.std.proofs.lemmas.Slice.Eq.{bytes_eq-Decides}
use Rattle.sqlite_schema.specs.Rules.{equal}
use Rattle.sqlite_schema.specs.declared.schema.Table.{Table}
use Rattle.sqlite_trees.specs.Tree.{Trees}
use Rattle.sqlite_value.specs.declared.keys.Collation.TheVariants.{Binary}
use Rattle.sqlite_value.specs.declared.value.Value.TheVariants.{Text}
use Rattle.sqlite_value.specs.Order.{Row, column}
use Rattle.society_rows.specs.Reads.{Lists, has_key}
use Rattle.society_rows.specs.Stored.{rows_in}
use Rattle.society_book.specs.Columns.{HasRows, text_at}
use Rattle.society_book.specs.DerivedRows.{is_named}
use Rattle.society_rows.proofs.lemmas.readings.KeyEquality.{text_equal}
use Rattle.society_book.proofs.lemmas.rows_alike.KeyRows.{last_truth}
use Rattle.society_book.proofs.lemmas.rows_alike.RowLemmas.{found_under, none_else, one_else}
use Rattle.sqlite_keyed.proofs.ListLemmas.{all_weaker}

-- the first column is a text
abbrev pub HasName : Row → Type 0
HasName row = column row 0 ≡ Text (text_at 0 row)

-- what SQL tests of such a row
pub keyed_named : (s : List ℕ) (r : Row) → HasName r → has_key (Text s ∷ []) r ≡ is_named s r
keyed_named s r h = last_truth (equal Binary (column r 0) (Text s)) ∙ ap (λ v. equal Binary v (Text s)) h ∙ text_equal (text_at 0 r) s

pub keyed_as_named : (s : List ℕ) (rows : List Row) → AllByRecursion HasName rows → AllByRecursion (λ r. has_key (Text s ∷ []) r ≡ is_named s r) rows
keyed_as_named s rows all = all_weaker HasName (λ r. has_key (Text s ∷ []) r ≡ is_named s r) (keyed_named s) rows all

-- the rows that SQL finds under a name are those that the name is to have
pub found_by_name : (table : Table) (expected : List ℕ → List Row) (width : ℕ) (db : Trees) (found : List Row) (s : List ℕ) → HasRows is_named expected (rows_in table db) → ((q : List ℕ) → AllByRecursion HasName (expected q)) → Lists table (has_key (Text s ∷ [])) width db found → IsPermutation (expected s) found
found_by_name table expected width db found s has named lists =
    found_under HasName is_named (text_at 0) (λ r. (bytes_eq-Decides (text_at 0 r) (text_at 0 r)).1 refl) s (has_key (Text s ∷ [])) (keyed_named s) table expected width db found has named lists

-- one row or none has one order
pub one_or_none : {X : Type 0} (b : Bool) (x : X) (ys : List X) → IsPermutation (cond b (x ∷ []) []) ys → ys ≡ cond b (x ∷ []) []
one_or_none true x ys p = one_else x ys p
one_or_none false x ys p = none_else ys p
