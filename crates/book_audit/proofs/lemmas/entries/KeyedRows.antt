-- Rows of a table that were read by their keys, one key after another: each is right and alone under its key exactly where so says each key.
use Rattle.std.proofs.Common.{◌≡◌, ◌∙◌, ◌+◌, ◌<◌, ◌≤◌, ◌&&◌, ◌++◌, ◌⊎◌, ℕ, inl, inr, Bool, true, false, cond, List, [], ◌∷◌, IsPermutation, ap, ap₂, arith, filter, get_or, length, map, refl, subst, sym, take}
use Rattle.std.specs.List.{AllByRecursion}
use Rattle.std.proofs.lemmas.Bool.{false≢true}
use Rattle.std.proofs.lemmas.List.{map-append, take_more}
use Rattle.std.proofs.lemmas.List.Sorted.{IsPermutation-sym}
use Rattle.sqlite_trees.proofs.ListLemmas.{all-append, all-filter, all-get_or, all-permutation, all_weaker, filter_same}
use Rattle.sqlite_value.specs.Order.{Row}
use Rattle.society_rows.specs.Reads.{has_key}
use Rattle.society_book.proofs.lemmas.rows_alike.BookLemmas.{filter_true}
use Rattle.society_book.proofs.lemmas.rows_alike.RowLemmas.{one_else}
use Rattle.society_book.proofs.lemmas.shown.AskLemmas.{first_true, second_true}
use Rattle.book_audit.specs.Entries.{AreEntries}
use Rattle.book_audit.specs.Judging.{is_one_right, is_right_at}

-- a row is one of some rows
abbrev pub IsIn : Row → List Row → Type 0
IsIn w [] = ⊥
IsIn w (r ∷ rows) = (w ≡ r) ⊎ IsIn w rows

pub all_members : (P : Row → Type 0) (rows : List Row) → ((w : Row) → IsIn w rows → P w) → AllByRecursion P rows
all_members P [] h = tt
all_members P (r ∷ rows) h = (h r (inl refl), all_members P rows (λ w there. h w (inr there)))

pub in_all : (P : Row → Type 0) (rows : List Row) (w : Row) → IsIn w rows → AllByRecursion P rows → P w
in_all P [] w there all = absurd there
in_all P (r ∷ rows) w (inl same) all = subst P (sym same) all.0
in_all P (r ∷ rows) w (inr there) all = in_all P rows w there all.1

-- it is kept where it passes
in_filter : (p : Row → Bool) (rows : List Row) (w : Row) → IsIn w rows → p w ≡ true → IsIn w (filter p rows)
in_filter p [] w there is = absurd there
in_filter p (r ∷ rows) w (inl same) is = by_case (p r) (sym (ap p same) ∙ is)
  where
    by_case : (b : Bool) → b ≡ true → IsIn w (cond b (r ∷ filter p rows) (filter p rows))
    by_case true is = inl same
    by_case false is = absurd (false≢true is)
in_filter p (r ∷ rows) w (inr there) is = by_case (p r) (in_filter p rows w there is)
  where
    by_case : (b : Bool) → IsIn w (filter p rows) → IsIn w (cond b (r ∷ filter p rows) (filter p rows))
    by_case true later = inr later
    by_case false later = later

-- the one of a list of at most one
alone_is : (l : List Row) (w : Row) → IsIn w l → length l ≤ 1 → l ≡ w ∷ []
alone_is [] w there few = absurd there
alone_is (x ∷ []) w (inl same) few = ap (λ (y : Row). y ∷ []) (sym same)
alone_is (x ∷ []) w (inr there) few = absurd there
alone_is (x ∷ y ∷ l) w there few = absurd (omega (arith, few))

only_in : (l : List Row) (w r : Row) → l ≡ r ∷ [] → IsIn w l → w ≡ r
only_in l w r is there = one (subst (IsIn w) is there)
  where
    one : IsIn w (r ∷ []) → w ≡ r
    one (inl same) = same
    one (inr there) = absurd there

pub all_pass : (rows : List Row) → filter (λ _. true) rows ≡ rows
all_pass [] = refl
all_pass (row ∷ rows) = ap (λ (rest : List Row). row ∷ rest) (all_pass rows)

-- rows in another order are one that is right as well
pub one_right_again : (is_right : Row → Bool) (xs ys : List Row) → IsPermutation xs ys → is_one_right is_right xs ≡ is_one_right is_right ys
one_right_again is_right xs ys same = by_case (is_one_right is_right xs) (is_one_right is_right ys) refl refl
  where
    one_is : (p : Row → Bool) (l : List Row) → is_one_right p l ≡ true → (r : Row) × (l ≡ r ∷ [])
    one_is p [] h = absurd (false≢true h)
    one_is p (r ∷ []) h = (r, refl)
    one_is p (r ∷ s ∷ l) h = absurd (false≢true h)

    by_case : (a b : Bool) → is_one_right is_right xs ≡ a → is_one_right is_right ys ≡ b → a ≡ b
    by_case true true first second = refl
    by_case false false first second = refl
    by_case true false first second =
        let one = one_is is_right xs first in
        let those : ys ≡ one.0 ∷ [] = one_else one.0 ys (subst (λ (l : List Row). IsPermutation l ys) one.1 same) in
        sym first ∙ ap (is_one_right is_right) (one.1 ∙ sym those) ∙ second
    by_case false true first second =
        let one = one_is is_right ys second in
        let those : xs ≡ one.0 ∷ [] = one_else one.0 xs (subst (λ (l : List Row). IsPermutation l xs) one.1 (IsPermutation-sym xs ys same)) in
        sym first ∙ ap (is_one_right is_right) (those ∙ sym one.1) ∙ second

module _ {K : Type 0} (is_key is_right : Row → Bool) (is_of : K → Row → Bool) (key_of : Row → K) (key_is : (q : K) (r : Row) → is_of q r ≡ true → q ≡ key_of r) (own : (r : Row) → is_of (key_of r) r ≡ true)
    (keys : (r : Row) → is_right r ≡ true → is_key (take 2 r) ≡ true) (self : (r : Row) → is_key (take 2 r) ≡ true → has_key (take 2 r) r ≡ true)
    (means : (w r : Row) → is_right w ≡ true → is_right r ≡ true → has_key (take 2 w) r ≡ is_of (key_of w) r) (rows : List Row) where
  -- the row under the key of a row is one, and right
  abbrev IsAt : Row → Type 0
  IsAt w = is_right_at is_key is_right rows (take 2 w) ≡ true

  abbrev IsRight : Row → Type 0
  IsRight r = is_right r ≡ true

  same_kept : (w : Row) → IsRight w → AllByRecursion IsRight rows → filter (has_key (take 2 w)) rows ≡ filter (is_of (key_of w)) rows
  same_kept w right all = filter_same (has_key (take 2 w)) (is_of (key_of w)) rows (all_weaker IsRight (λ r. has_key (take 2 w) r ≡ is_of (key_of w) r) (λ r h. means w r right h) rows all)

  the_one : (l : List Row) → is_one_right is_right l ≡ true → (r : Row) × (l ≡ r ∷ []) × IsRight r
  the_one [] h = absurd (false≢true h)
  the_one (r ∷ []) h = (r, refl, h)
  the_one (r ∷ s ∷ l) h = absurd (false≢true h)

  each_right : AllByRecursion IsAt rows → AllByRecursion IsRight rows
  each_right all =
      all_members IsRight rows
      (λ w there.
      let here : IsAt w = in_all IsAt rows w there all in
      let kept = filter (has_key (take 2 w)) rows in
      let one = the_one kept (second_true (is_key (take 2 w)) (is_one_right is_right kept) here) in
      let same : w ≡ one.0 = only_in kept w one.0 one.1 (in_filter (has_key (take 2 w)) rows w there (self w (first_true (is_key (take 2 w)) (is_one_right is_right kept) here))) in
      subst IsRight (sym same) one.2)

  abbrev IsAlone : Row → Type 0
  IsAlone r = length (filter (is_of (key_of r)) rows) ≤ 1

  each_alone : AllByRecursion IsAt rows → AllByRecursion IsAlone rows
  each_alone all =
      all_members IsAlone rows
      (λ w there.
      let here : IsAt w = in_all IsAt rows w there all in
      let kept = filter (has_key (take 2 w)) rows in
      let one = the_one kept (second_true (is_key (take 2 w)) (is_one_right is_right kept) here) in
      let count : length (filter (is_of (key_of w)) rows) ≡ 1 = ap length (sym (same_kept w (in_all IsRight rows w there (each_right all)) (each_right all)) ∙ one.1) in
      omega (arith, count))

  at_most_one : AllByRecursion IsAlone rows → (q : K) → length (filter (is_of q) rows) ≤ 1
  at_most_one all q = by_list (filter (is_of q) rows) refl (all-filter IsAlone (is_of q) rows all) (filter_true (is_of q) rows)
    where
      by_list : (l : List Row) → filter (is_of q) rows ≡ l → AllByRecursion IsAlone l → AllByRecursion (λ r. is_of q r ≡ true) l → length l ≤ 1
      by_list [] is alone of = omega arith
      by_list (r ∷ l) is alone of = subst (λ (k : List Row). length k ≤ 1) is (subst (λ (k : K). length (filter (is_of k) rows) ≤ 1) (sym (key_is q r of.0)) alone.0)

  -- each row is right and alone under its key, where so says its key
  by_keys : AllByRecursion IsAt rows → AreEntries is_right is_of rows
  by_keys all = record { right = each_right all; once = at_most_one (each_alone all) }

  -- and only there
  keys_by : AreEntries is_right is_of rows → AllByRecursion IsAt rows
  keys_by entries =
      all_members IsAt rows
      (λ w there.
      let right : IsRight w = in_all IsRight rows w there entries.right in
      let kept : filter (has_key (take 2 w)) rows ≡ w ∷ [] =
      same_kept w right entries.right ∙ alone_is (filter (is_of (key_of w)) rows) w (in_filter (is_of (key_of w)) rows w there (own w)) (entries.once (key_of w)) in
      both (is_key (take 2 w)) (is_one_right is_right (filter (has_key (take 2 w)) rows)) (keys w right) (ap (is_one_right is_right) kept ∙ right))
    where
      both : (a b : Bool) → a ≡ true → b ≡ true → (a && b) ≡ true
      both a b first second = ap (λ (t : Bool). t && b) first ∙ second

  module _ (whole : List Row) (these : IsPermutation (filter (λ _. true) rows) whole) where
    same_rows : IsPermutation rows whole
    same_rows = subst (λ (l : List Row). IsPermutation l whole) (all_pass rows) these

    -- so of rows that were listed
    pub entries_by_keys : AllByRecursion IsAt whole → AreEntries is_right is_of rows
    entries_by_keys all = by_keys (all-permutation IsAt whole rows (IsPermutation-sym rows whole same_rows) all)

    pub keys_by_entries : AreEntries is_right is_of rows → AllByRecursion IsAt whole
    keys_by_entries entries = all-permutation IsAt rows whole same_rows (keys_by entries)

-- what holds of the rows so far, and of the next
pub more_of : (P : Row → Type 0) (rows : List Row) (i : ℕ) (x : Row) → i < length rows → x ≡ get_or rows i x → AllByRecursion P (take i rows) → P x → AllByRecursion P (take (i + 1) rows)
more_of P rows i x within is before here =
    let next : take (i + 1) rows ≡ take i rows ++ x ∷ [] = take_more rows i x within ∙ ap (λ (z : Row). take i rows ++ z ∷ []) (sym is) in
    subst (AllByRecursion P) (sym next) (all-append P (take i rows) (x ∷ []) before (here, tt))

-- what holds of all rows holds of the one at a place
pub here_of : (P : Row → Type 0) (rows : List Row) (i : ℕ) (x : Row) → i < length rows → x ≡ get_or rows i x → AllByRecursion P rows → P x
here_of P rows i x within is all = subst P (sym is) (all-get_or P rows i x all within)

-- what is worked out of the rows so far, and of the next
pub more_told : {X : Type 0} (f : Row → X) (rows : List Row) (i : ℕ) (row : Row) (x : X) (old new : List X) → i < length rows → row ≡ get_or rows i row → old ≡ map f (take i rows) → new ≡ old ++ x ∷ [] → x ≡ f row → new ≡ map f (take (i + 1) rows)
more_told {X} f rows i row x old new within is before put same =
    let next : take (i + 1) rows ≡ take i rows ++ row ∷ [] = take_more rows i row within ∙ ap (λ (z : Row). take i rows ++ z ∷ []) (sym is) in
    put ∙ ap₂ (λ (l : List X) (y : X). l ++ y ∷ []) before same ∙ sym (ap (map f) next ∙ map-append f (take i rows) (row ∷ []))
