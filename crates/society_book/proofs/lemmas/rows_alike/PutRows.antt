-- The rows of a table once a row is put over those of its name.
use Rattle.std.proofs.Common.{◌≡◌, ◌∙◌, Bool, true, false, not, cond, List, [], ◌∷◌, ℕ, refl, ap, sym, subst, filter, bytes_eq, IsPermutation}
use Rattle.std.specs.List.{AllByRecursion}
use Rattle.std.proofs.lemmas.Bool.{false≢true}
use Rattle.std.proofs.lemmas.Slice.Eq.{bytes_eq-Decides}
use Rattle.sqlite_keyed.proofs.ListLemmas.{IsPermutation-filter, all_weaker, filter-filter}
use Rattle.sqlite_schema.specs.Rules.{equal}
use Rattle.sqlite_trees.proofs.ListLemmas.{filter_same}
use Rattle.sqlite_value.specs.declared.keys.Collation.TheVariants.{Binary}
use Rattle.sqlite_value.specs.declared.value.Value.{Value}
use Rattle.sqlite_value.specs.declared.value.Value.TheVariants.{Text}
use Rattle.sqlite_value.specs.Order.{Row}
use Rattle.society_rows.specs.Stored.{has_first, put_over}
use Rattle.society_book.specs.Columns.{HasRows, text_at}
use Rattle.society_book.specs.DerivedRows.{is_named}
use Rattle.society_rows.proofs.lemmas.readings.KeyEquality.{text_equal}
use Rattle.society_book.proofs.lemmas.rows_alike.NamedRows.{HasName}
use Rattle.std.proofs.lemmas.List.Sorted.{IsPermutation-trans}
use Rattle.society_book.proofs.lemmas.rows_alike.KeptTables.{same_permutation}
use Rattle.society_book.proofs.lemmas.rows_alike.RowLemmas.{all_rows}

none_left : (p q : Row → Bool) → ((r : Row) → p r ≡ true → q r ≡ false) → (rows : List Row) → filter p (filter q rows) ≡ []
none_left p q apart [] = refl
none_left p q apart (r ∷ rows) = by_case (q r) refl (none_left p q apart rows)
  where
    inner : (y : Bool) → p r ≡ y → q r ≡ true → filter p (filter q rows) ≡ [] → cond y (r ∷ filter p (filter q rows)) (filter p (filter q rows)) ≡ []
    inner true passes kept e = absurd (false≢true (sym (apart r passes) ∙ kept))
    inner false passes kept e = e

    by_case : (x : Bool) → q r ≡ x → filter p (filter q rows) ≡ [] → filter p (cond x (r ∷ filter q rows) (filter q rows)) ≡ []
    by_case true kept e = inner (p r) refl kept e
    by_case false kept e = e

module _ (s : List ℕ) (columns : List Value) where
  both_named : (t : List ℕ) (r : Row) → is_named t r ≡ true → is_named s r ≡ true → s ≡ t
  both_named t r x y = sym ((bytes_eq-Decides (text_at 0 r) s).0 y) ∙ (bytes_eq-Decides (text_at 0 r) t).0 x

  -- of its own name it alone is left, of every other name what was there
  pub others_left : (rows : List Row) → AllByRecursion HasName rows → (t : List ℕ) → filter (is_named t) (put_over (Text s ∷ columns) rows) ≡ cond (bytes_eq s t) ((Text s ∷ columns) ∷ []) (filter (is_named t) rows)
  others_left rows named t =
      ap (λ l. filter (is_named t) ((Text s ∷ columns) ∷ l)) (filter_same (λ r. not (has_first (Text s) r)) (λ r. not (is_named s r)) rows (all_weaker HasName (λ r. not (has_first (Text s) r) ≡ not (is_named s r)) (λ r name. ap not (ap (λ v. equal Binary v (Text s)) name ∙ text_equal (text_at 0 r) s)) rows named))
      ∙ by_case (bytes_eq s t) refl
    where
      by_case : (x : Bool) → bytes_eq s t ≡ x → cond x ((Text s ∷ columns) ∷ filter (is_named t) (filter (λ r. not (is_named s r)) rows)) (filter (is_named t) (filter (λ r. not (is_named s r)) rows)) ≡ cond x ((Text s ∷ columns) ∷ []) (filter (is_named t) rows)
      by_case true is =
          ap (λ l. (Text s ∷ columns) ∷ l)
          (none_left (is_named t) (λ r. not (is_named s r))
          (λ r x. ap not (subst (λ (q : List ℕ). is_named q r ≡ true) (sym ((bytes_eq-Decides s t).0 is)) x)) rows)
      by_case false is =
          filter-filter (is_named t) (λ r. not (is_named s r)) (λ r x. still r x (is_named s r) refl) rows
        where
          still : (r : Row) → is_named t r ≡ true → (y : Bool) → is_named s r ≡ y → not y ≡ true
          still r x true y = absurd (false≢true (sym is ∙ (bytes_eq-Decides s t).1 (both_named t r x y)))
          still r x false y = refl

-- with a row put over those of its name that name has it, and each other name what it had
pub put_holds : (s : List ℕ) (columns : List Value) (expected grown : List ℕ → List Row) (old new : List Row) → HasRows is_named expected old → ((q : List ℕ) → AllByRecursion HasName (expected q)) → ((t : List ℕ) → grown t ≡ cond (bytes_eq s t) ((Text s ∷ columns) ∷ []) (expected t)) → IsPermutation (put_over (Text s ∷ columns) old) new → HasRows is_named grown new
put_holds s columns expected grown old new has named grows put t =
    let formed = all_rows is_named (text_at 0) (λ r. (bytes_eq-Decides (text_at 0 r) (text_at 0 r)).1 refl) HasName expected old has named in
    IsPermutation-trans (grown t) (filter (is_named t) (put_over (Text s ∷ columns) old)) (filter (is_named t) new)
    (by_case (bytes_eq s t) (grows t) (others_left s columns old formed t))
    (IsPermutation-filter (is_named t) (put_over (Text s ∷ columns) old) new put)
  where
    by_case : (x : Bool) → grown t ≡ cond x ((Text s ∷ columns) ∷ []) (expected t) → filter (is_named t) (put_over (Text s ∷ columns) old) ≡ cond x ((Text s ∷ columns) ∷ []) (filter (is_named t) old) → IsPermutation (grown t) (filter (is_named t) (put_over (Text s ∷ columns) old))
    by_case true is left = same_permutation (is ∙ sym left)
    by_case false is left = subst (IsPermutation (grown t)) (sym left) (subst (λ (l : List Row). IsPermutation l (filter (is_named t) old)) (sym is) (has t))
