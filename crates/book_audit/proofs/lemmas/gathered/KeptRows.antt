-- Rows that may each stand in a book, and have each a key of its own, are those of the map that they make.
use Rattle.std.proofs.Common.{◌≡◌, ◌∙◌, ◌≤◌, ◌||◌, Bool, true, false, cond, List, [], ◌∷◌, Some, refl, ap, sym, arith, map, length, filter, Ordering}
use Rattle.std.specs.Cmp.{IsTotalOrder}
use Rattle.std.specs.FinMap as finite
use Rattle.std.specs.List.{AllByRecursion, list_any}
use Rattle.std.specs.Ordering.{eq_by_cmp, is_eq}
use Rattle.std.proofs.lemmas.Bool.{false≢true}
use Rattle.sqlite_value.specs.Order.{Row}
use Rattle.std.specs.declared.cmp.Ordering.TheVariants.{Less, Equal, Greater}
use Rattle.std.proofs.lemmas.Map.Lookups.{CmpEqualImpliesEq}
use Rattle.sqlite_keyed.proofs.ListLemmas.{all-filter}
use Rattle.society_book.specs.BookRows.{row_of_some}
use Rattle.society_book.specs.Columns.{HasRows}
use Rattle.society_book.proofs.lemmas.rows_alike.BookLemmas.{filter_true}
use Rattle.society_book.proofs.lemmas.rows_alike.RowLemmas.{first_value, found_first}
use Rattle.society_book.proofs.lemmas.rows_alike.KeptTables.{same_permutation}

tied : (r : Ordering) → is_eq r ≡ true → r ≡ Equal
tied Less h = absurd (false≢true h)
tied Equal h = refl
tied Greater h = absurd (false≢true h)

-- what is kept of a list was there
some_kept : {X : Type 0} (p : X → Bool) (xs : List X) (y : X) (ys : List X) → filter p xs ≡ y ∷ ys → list_any p xs ≡ true
some_kept p [] y ys e = absurd (let h = e in cc)
some_kept p (x ∷ xs) y ys e = by_case (p x) e (some_kept p xs y ys)
  where
    by_case : (b : Bool) → cond b (x ∷ filter p xs) (filter p xs) ≡ y ∷ ys → (filter p xs ≡ y ∷ ys → list_any p xs ≡ true) → (b || list_any p xs) ≡ true
    by_case true e later = refl
    by_case false e later = later e

-- rows by the keys that they have
module _ {K : Type 0} {R : K → K → Ordering} (total : IsTotalOrder R) (exact : CmpEqualImpliesEq R) (is_of : K → Row → Bool) (key_of : Row → K) (agrees : (q : K) (r : Row) → eq_by_cmp R q (key_of r) ≡ is_of q r) where
  pub key_is : (q : K) (r : Row) → is_of q r ≡ true → q ≡ key_of r
  key_is q r of = exact q (key_of r) (tied (R q (key_of r)) (agrees q r ∙ of))

  -- each once
  module _ {X : Type 0} (value_of : Row → X) (row : K → X → Row) (IsRight : Row → Type 0) (form : (r : Row) → IsRight r → r ≡ row (key_of r) (value_of r)) where
    abbrev pub entry : Row → K × X
    entry r = (key_of r, value_of r)

    -- right rows, each alone under its key, are those of the map that they make
    pub kept_once : (rows : List Row) → AllByRecursion IsRight rows → ((q : K) → length (filter (is_of q) rows) ≤ 1) → HasRows is_of (λ q. row_of_some (row q) (finite.get (finite.from_entries {R = R} (map entry rows)) q)) rows
    kept_once rows all once q =
        same_permutation
        (ap (row_of_some (row q)) (finite.get-from_entries total (map entry rows) q ∙ found_first total exact is_of entry agrees q rows)
        ∙ alone (filter (is_of q) rows) (all-filter IsRight (is_of q) rows all) (filter_true (is_of q) rows) (once q))
      where
        alone : (l : List Row) → AllByRecursion IsRight l → AllByRecursion (λ r. is_of q r ≡ true) l → length l ≤ 1 → row_of_some (row q) (first_value entry l) ≡ l
        alone [] right of few = refl
        alone (r ∷ []) right of few = ap (λ (x : Row). x ∷ []) (ap (λ (k : K). row k (value_of r)) (key_is q r of.0) ∙ sym (form r right.0))
        alone (r ∷ s ∷ l) right of few = absurd (omega (arith, few))

    -- what that map has is what one of them has
    pub had_by : (rows : List Row) → AllByRecursion IsRight rows → (q : K) (body : X) → finite.get (finite.from_entries {R = R} (map entry rows)) q ≡ Some body → (r : Row) × IsRight r × (q ≡ key_of r) × (value_of r ≡ body) × (list_any (is_of q) rows ≡ true)
    had_by rows all q body has =
        first (filter (is_of q) rows) refl (all-filter IsRight (is_of q) rows all) (filter_true (is_of q) rows)
        (sym (finite.get-from_entries total (map entry rows) q ∙ found_first total exact is_of entry agrees q rows) ∙ has)
      where
        first : (l : List Row) → filter (is_of q) rows ≡ l → AllByRecursion IsRight l → AllByRecursion (λ r. is_of q r ≡ true) l → first_value entry l ≡ Some body → (r : Row) × IsRight r × (q ≡ key_of r) × (value_of r ≡ body) × (list_any (is_of q) rows ≡ true)
        first [] are right of e = absurd (cc)
        first (r ∷ l) are right of e = (r, right.0, key_is q r of.0, (let same = e in cc), some_kept (is_of q) rows r l are)
