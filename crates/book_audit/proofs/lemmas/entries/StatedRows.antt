-- The last numbers that rows of ends state, by their segments, and the transmissions that are not above them.
use Rattle.std.proofs.Common.{◌≡◌, ◌∙◌, ◌≤◌, ◌<◌, ◌+◌, ◌++◌, ℕ, zero, suc, Bool, true, false, cond, Option, Some, None, is_some, List, [], ◌∷◌, IfErr, IfOk, IsPermutation, Result, Ok, Err, Vec, ap, ap₂, arith, filter, get_or, length, map, nat_le, refl, subst, sym, take}
use Rattle.std.specs.BTreeMap as tree
use Rattle.std.specs.declared.alloc.Global.{Global}
use Rattle.std.specs.List.{AllByRecursion, list_all}
use Rattle.std.specs.Ordering.{eq_by_cmp}
use Rattle.std.proofs.lemmas.Bool.{false≢true}
use Rattle.std.proofs.lemmas.Bool.Decides.{nat_tests}
use Rattle.std.proofs.lemmas.List.{append-nil, length-append, length-map, take_more}
use Rattle.std.proofs.lemmas.List.Elements.{filter-append}
use Rattle.std.proofs.lemmas.List.Sorted.{IsPermutation-map, IsPermutation-sym, length_permutation}
use Rattle.sqlite_keyed.proofs.ListLemmas.{IsPermutation-filter, all-filter, all_from_test, all_kept, all_unmap, all_weaker, filter-map, test_from_all}
use Rattle.sqlite_trees.proofs.ListLemmas.{all-permutation}
use Rattle.sqlite_trees.specs.Tree.{Trees}
use Rattle.sqlite_value.specs.Order.{Row}
use Rattle.society_core.specs.Book.{body_at}
use Rattle.society_core.specs.Keys.{segment_cmp, segment_key, transmission_key}
use Rattle.society_core.specs.declared.segment_key.SegmentKey.{SegmentKey}
use Rattle.society_core.specs.declared.transmission_key.TransmissionKey.{TransmissionKey}
use Rattle.society_core.proofs.lemmas.HeadlineLemmas.{none_past}
use Rattle.society_rows.specs.Layout as layout
use Rattle.society_rows.specs.Listings.{ListsAll}
use Rattle.society_rows.specs.Stored.{rows_in}
use Rattle.society_rows.specs.declared.tables.TableName.TheVariants as name
use Rattle.society_book.specs.BookRows.{end_of, is_end_row, is_transmission_row, row_of_some, same_segment_key, transmission_key_of, transmission_row}
use Rattle.society_book.specs.Columns.{segment_place_at, text_at}
use Rattle.society_book.proofs.lemmas.rows_alike.BookLemmas.{segments_tie}
use Rattle.society_book.proofs.lemmas.rows_alike.EndRows.{same_segment_is}
use Rattle.society_book.proofs.lemmas.rows_alike.KeyRows.{both_same}
use Rattle.society_book.proofs.lemmas.rows_alike.RowLemmas.{one_else}
use Rattle.society_book.proofs.lemmas.together.ErrLemmas.{blames_more}
use Rattle.society_book.specs.Errors.{Blames}
use Rattle.society_rows.specs.declared.fault.RowFault.{RowFault}
use Rattle.book_audit.specs.Entries.{AreEndsAbove, IsAbove, is_right_stated}
use Rattle.book_audit.specs.Judging.{AreLasts, AreOnce, AreRightLasts, AreSentKeys, AreStated, AreUnder, HasLasts, IsUnder, is_under, is_up_to, last_stated, lasts_of, pair_of_some}
use Rattle.book_audit.proofs.lemmas.entries.KeyedRows.{IsIn, all_members, all_pass, in_all}
use Rattle.work_ids.specs.Segments.{segment_of, sequence_of}

abbrev pub Last : Type 0
Last = SegmentKey × ℕ

abbrev pub Lasts : Type 0
Lasts = tree.BTreeMap SegmentKey ℕ

-- a transmission is not above the end of its segment
abbrev pub IsUnderAll : List Last → TransmissionKey → Type 0
IsUnderAll lasts key = AllByRecursion (IsUnder key) lasts

-- whether a last number is of a segment
abbrev is_of : SegmentKey → Last → Bool
is_of q last = same_segment_key q last.0

same_itself : (q : SegmentKey) → same_segment_key q q ≡ true
same_itself q = both_same q.sender q.segment

-- keys that differ do so either way
apart : (p q : SegmentKey) → same_segment_key q p ≡ false → same_segment_key p q ≡ false
apart p q is = by_case (same_segment_key p q) refl
  where
    by_case : (a : Bool) → same_segment_key p q ≡ a → same_segment_key p q ≡ false
    by_case false h = h
    by_case true h = absurd (false≢true (sym is ∙ ap (λ (k : SegmentKey). same_segment_key q k) (same_segment_is p q h) ∙ same_itself q))

-- one more is put in, of a segment that had none
pub one_more_last : (done : List Last) (x : Last) (old new : Lasts) → HasLasts done old → tree.get segment_cmp old x.0 ≡ None → ((q : SegmentKey) → tree.get segment_cmp new q ≡ cond (eq_by_cmp segment_cmp x.0 q) (Some x.1) (tree.get segment_cmp old q))
    → HasLasts (done ++ x ∷ []) new
one_more_last done x old new has free put q = filter-append (is_of q) done (x ∷ []) ∙ by_case (same_segment_key q x.0) refl
  where
    by_case : (a : Bool) → same_segment_key q x.0 ≡ a → (filter (is_of q) done ++ filter (is_of q) (x ∷ [])) ≡ pair_of_some q (tree.get segment_cmp new q)
    by_case true is =
        let same : q ≡ x.0 = same_segment_is q x.0 is in
        let none : tree.get segment_cmp old q ≡ None = ap (tree.get segment_cmp old) same ∙ free in
        let tie : eq_by_cmp segment_cmp x.0 q ≡ true = segments_tie x.0 q ∙ ap (same_segment_key x.0) same ∙ same_itself x.0 in
        let here : tree.get segment_cmp new q ≡ Some x.1 = put q ∙ ap (λ (t : Bool). cond t (Some x.1) (tree.get segment_cmp old q)) tie in
        let before : filter (is_of q) done ≡ [] = has q ∙ ap (pair_of_some q) none in
        ap₂ (λ (xs ys : List Last). xs ++ ys) before (ap (λ (t : Bool). cond t (x ∷ []) []) is) ∙ ap (λ (k : SegmentKey). (k, x.1) ∷ []) (sym same) ∙ ap (pair_of_some q) (sym here)
    by_case false is =
        let there : tree.get segment_cmp new q ≡ tree.get segment_cmp old q = put q ∙ ap (λ (t : Bool). cond t (Some x.1) (tree.get segment_cmp old q)) (segments_tie x.0 q ∙ apart x.0 q is) in
        ap (λ (ys : List Last). filter (is_of q) done ++ ys) (ap (λ (t : Bool). cond t (x ∷ []) []) is) ∙ append-nil (filter (is_of q) done) ∙ has q ∙ ap (pair_of_some q) (sym there)

-- a segment that is put in twice is there twice
pub twice : (lasts : List Last) (i : ℕ) (x : Last) (old : Lasts) (y : ℕ) → i < length lasts → x ≡ get_or lasts i x → HasLasts (take i lasts) old → tree.get segment_cmp old x.0 ≡ Some y → AreOnce lasts → ⊥
twice lasts i x old y within is has there once =
    let p = is_of x.0 in
    let next : take (i + 1) lasts ≡ take i lasts ++ x ∷ [] = take_more lasts i x within ∙ ap (λ (z : Last). take i lasts ++ z ∷ []) (sym is) in
    let own : filter p (x ∷ []) ≡ x ∷ [] = ap (λ (t : Bool). cond t (x ∷ []) []) (same_itself x.0) in
    let before : length (filter p (take i lasts)) ≡ 1 = ap length (has x.0 ∙ ap (pair_of_some x.0) there) in
    let two : length (filter p (take (i + 1) lasts)) ≡ length (filter p (take i lasts)) + 1 =
    ap (λ (l : List Last). length (filter p l)) next ∙ ap length (filter-append p (take i lasts) (x ∷ [])) ∙ length-append (filter p (take i lasts)) (filter p (x ∷ [])) ∙ ap (λ (l : List Last). length (filter p (take i lasts)) + length l) own in
    let few = fewer p lasts (i + 1) in
    let most = once x.0 in
    omega (arith, before, two, few, most)
  where
    fewer : (p : Last → Bool) (xs : List Last) (n : ℕ) → length (filter p (take n xs)) ≤ length (filter p xs)
    fewer p [] zero = omega arith
    fewer p [] (suc n) = omega arith
    fewer p (z ∷ xs) zero = omega arith
    fewer p (z ∷ xs) (suc n) = by_case (p z) (fewer p xs n)
      where
        by_case : (b : Bool) → length (filter p (take n xs)) ≤ length (filter p xs) → length (cond b (z ∷ filter p (take n xs)) (filter p (take n xs))) ≤ length (cond b (z ∷ filter p xs) (filter p xs))
        by_case true h = omega (arith, h)
        by_case false h = h

-- so of the next of a list
pub next_last : (lasts : List Last) (i : ℕ) (x : Last) (old new : Lasts) → i < length lasts → x ≡ get_or lasts i x → HasLasts (take i lasts) old → tree.get segment_cmp old x.0 ≡ None
    → ((q : SegmentKey) → tree.get segment_cmp new q ≡ cond (eq_by_cmp segment_cmp x.0 q) (Some x.1) (tree.get segment_cmp old q)) → HasLasts (take (i + 1) lasts) new
next_last lasts i x old new within is has free put =
    let next : take (i + 1) lasts ≡ take i lasts ++ x ∷ [] = take_more lasts i x within ∙ ap (λ (z : Last). take i lasts ++ z ∷ []) (sym is) in
    subst (λ (l : List Last). HasLasts l new) (sym next) (one_more_last (take i lasts) x old new has free put)

-- what a test of an option says
pub nothing_there : (o p : Option ℕ) (t : Bool) → o ≡ p → t ≡ is_some o → t ≡ false → p ≡ None
nothing_there None p t is test fails = sym is
nothing_there (Some y) p t is test fails = absurd (false≢true (sym fails ∙ test))

pub something_there : (o p : Option ℕ) (t : Bool) → o ≡ p → t ≡ is_some o → t ≡ true → (y : ℕ) × (p ≡ Some y)
something_there None p t is test holds = absurd (false≢true (sym test ∙ holds))
something_there (Some y) p t is test holds = (y, sym is)

-- a map that has them has each segment once
pub once_by_map : (lasts : List Last) (ends : Lasts) → HasLasts lasts ends → AreOnce lasts
once_by_map lasts ends has q = subst (λ (l : List Last). length l ≤ 1) (sym (has q)) (few (tree.get segment_cmp ends q))
  where
    few : (o : Option ℕ) → length (pair_of_some q o) ≤ 1
    few None = omega arith
    few (Some n) = omega arith

abbrev key_of : TransmissionKey → SegmentKey
key_of key = segment_key key.sender (segment_of key.number)

module _ (lasts : List Last) (ends : Lasts) (has : HasLasts lasts ends) where
  -- by what a map has, a transmission is not above the end of its segment
  under_each : (key : TransmissionKey) → is_under ends key ≡ true → AllByRecursion (IsUnder key) lasts
  under_each key is =
      let s = sequence_of key.number in
      let q = key_of key in
      all_weaker (λ (last : Last). is_of q last ≡ true → s ≤ last.1) (IsUnder key) (λ last h same. h (ap (same_segment_key q) same ∙ same_itself q)) lasts
      (all_kept (λ (last : Last). s ≤ last.1) (is_of q) lasts (subst (AllByRecursion (λ (last : Last). s ≤ last.1)) (sym (has q)) (by_end s q (tree.get segment_cmp ends q) is)))
    where
      by_end : (s : ℕ) (q : SegmentKey) (o : Option ℕ) → is_up_to o s ≡ true → AllByRecursion (λ (last : Last). s ≤ last.1) (pair_of_some q o)
      by_end s q None is = tt
      by_end s q (Some last) is = (below s last is, tt)
        where
          below : (a b : ℕ) → nat_le a b ≡ true → a ≤ b
          below a b h = grind (arith, nat_tests)

  each_under : (key : TransmissionKey) → AllByRecursion (IsUnder key) lasts → is_under ends key ≡ true
  each_under key all = by_end (tree.get segment_cmp ends (key_of key)) refl
    where
      kept : AllByRecursion (IsUnder key) (pair_of_some (key_of key) (tree.get segment_cmp ends (key_of key)))
      kept = subst (AllByRecursion (IsUnder key)) (has (key_of key)) (all-filter (IsUnder key) (is_of (key_of key)) lasts all)

      fits : (a b : ℕ) → a ≤ b → nat_le a b ≡ true
      fits a b h = grind (arith, nat_tests)

      by_end : (o : Option ℕ) → tree.get segment_cmp ends (key_of key) ≡ o → is_under ends key ≡ true
      by_end None is = ap (λ (x : Option ℕ). is_up_to x (sequence_of key.number)) is
      by_end (Some last) is =
          ap (λ (x : Option ℕ). is_up_to x (sequence_of key.number)) is
          ∙ fits (sequence_of key.number) last ((subst (AllByRecursion (IsUnder key)) (ap (pair_of_some (key_of key)) is) kept).0 refl)

  -- so are all of them
  pub all_under : (keys : List TransmissionKey) → list_all (is_under ends) keys ≡ true → AreUnder keys lasts
  all_under keys is = record {
    once = once_by_map lasts ends has;
    under = all_weaker (λ key. is_under ends key ≡ true) (λ key. AllByRecursion (IsUnder key) lasts) under_each keys (all_from_test (is_under ends) keys is);
  }

  pub under_all : (keys : List TransmissionKey) → AreUnder keys lasts → list_all (is_under ends) keys ≡ true
  under_all keys under = test_from_all (is_under ends) keys (all_weaker (λ key. AllByRecursion (IsUnder key) lasts) (λ key. is_under ends key ≡ true) each_under keys under.under)

module _ (db : Trees) (lasts : List Last) (these : AreLasts db lasts) where
  abbrev rows : List Row
  rows = rows_in layout.segment_ends db

  same_count : (q : SegmentKey) → length (lasts_of q lasts) ≡ length (filter (is_end_row q) rows)
  same_count q =
      sym (length_permutation (filter (is_of q) lasts) (filter (is_of q) (map last_stated rows)) (IsPermutation-filter (is_of q) lasts (map last_stated rows) these))
      ∙ ap length (filter-map (is_of q) last_stated rows)
      ∙ length-map (filter (is_end_row q) rows) last_stated

  -- no key of an end stands twice where no segment is there twice
  pub stated_once : AreOnce lasts → (q : SegmentKey) → length (filter (is_end_row q) rows) ≤ 1
  stated_once once q = subst (λ (n : ℕ). n ≤ 1) (same_count q) (once q)

  pub once_stated : AreStated db → AreOnce lasts
  once_stated stated q = subst (λ (n : ℕ). n ≤ 1) (sym (same_count q)) (stated.once q)

  -- where no transmission is above its end, each end is above all transmissions of its segment
  pub ends_above : (keys : List TransmissionKey) → AreSentKeys db keys → AreUnder keys lasts → AreEndsAbove db
  ends_above keys sent under book has = all_members (IsAbove book) rows above
    where
      each_row : AllByRecursion (λ r. IsUnderAll lasts (transmission_key_of r)) (rows_in layout.transmissions db)
      each_row =
          all_unmap (IsUnderAll lasts) transmission_key_of (rows_in layout.transmissions db)
          (all-permutation (IsUnderAll lasts) keys (map transmission_key_of (rows_in layout.transmissions db)) sent under.under)

      there : (s : List ℕ) (n : ℕ) (x : List ℕ) → body_at book s n ≡ Some x → IsUnderAll lasts (transmission_key s n)
      there s n x is =
          let q = transmission_key s n in
          let one : filter (is_transmission_row q) (rows_in layout.transmissions db) ≡ transmission_row q x ∷ [] =
          one_else (transmission_row q x) (filter (is_transmission_row q) (rows_in layout.transmissions db)) (subst (λ (o : Option (List ℕ)). IsPermutation (row_of_some (transmission_row q) o) (filter (is_transmission_row q) (rows_in layout.transmissions db))) is (has q)) in
          (subst (AllByRecursion (λ r. IsUnderAll lasts (transmission_key_of r))) one (all-filter (λ r. IsUnderAll lasts (transmission_key_of r)) (is_transmission_row q) (rows_in layout.transmissions db) each_row)).0

      above : (w : Row) → IsIn w rows → IsAbove book w
      above w is_in =
          none_past book (text_at 0 w) (segment_place_at 1 w) (end_of w)
          (λ n x is same.
          let key = transmission_key (text_at 0 w) n in
          in_all (λ r. IsUnder key (last_stated r)) rows w is_in
          (all_unmap (IsUnder key) last_stated rows (all-permutation (IsUnder key) lasts (map last_stated rows) these (there (text_at 0 w) n x is)))
          (ap (segment_key (text_at 0 w)) (sym same)))

module _ (db : Trees) (rows : List Row) (lists : ListsAll name.SegmentEnds db rows) where
  abbrev AreRight : List Row → Type 0
  AreRight rs = AllByRecursion (λ row. is_right_stated row ≡ true) rs

  same_ends : IsPermutation (rows_in layout.segment_ends db) rows
  same_ends = subst (λ (l : List Row). IsPermutation l rows) (all_pass (rows_in layout.segment_ends db)) lists.rows

  -- the last numbers of the rows of a database
  pub right_lasts : (r : Result (Vec Last Global) RowFault) → IfOk r (λ _. AreRight rows) → IfOk r (λ lasts. lasts.items ≡ map last_stated rows) → IfOk r (λ lasts. AreRightLasts db lasts.items)
  right_lasts (Err fault) right these = tt
  right_lasts (Ok lasts) right these = record {
    right = all-permutation (λ row. is_right_stated row ≡ true) rows (rows_in layout.segment_ends db) (IsPermutation-sym (rows_in layout.segment_ends db) rows same_ends) right;
    these = subst (λ (l : List Last). IsPermutation l (map last_stated (rows_in layout.segment_ends db))) (sym these)
        (IsPermutation-sym (map last_stated (rows_in layout.segment_ends db)) (map last_stated rows) (IsPermutation-map last_stated (rows_in layout.segment_ends db) rows same_ends));
  }

  pub wrong_lasts : (r : Result (Vec Last Global) RowFault) → IfErr r (Blames (AreRight rows → ⊥)) → IfErr r (Blames (AreStated db → ⊥))
  wrong_lasts (Ok lasts) judged = tt
  wrong_lasts (Err fault) judged = blames_more (AreRight rows → ⊥) (AreStated db → ⊥) fault (λ wrong stated. wrong (all-permutation (λ row. is_right_stated row ≡ true) (rows_in layout.segment_ends db) rows same_ends stated.right)) judged
