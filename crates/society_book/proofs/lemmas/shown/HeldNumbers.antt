-- Which numbers of a sender are held: those above its front, and those that its line skips.
use Rattle.std.proofs.Common.{◌≡◌, ◌∙◌, ◌<◌, ◌≤◌, ◌+◌, ◌&&◌, ◌||◌, ◌++◌, ℕ, Bool, true, false, List, [], ◌∷◌, Option, Some, None, flat_map, nat_le, nat_lt, not, refl, ap, ap₂, sym, arith, ⊎_elim}
use Rattle.std.specs.List.{AllByRecursion}
use Rattle.std.specs.List.Sorted.{IsStrictlySortedBy}
use Rattle.std.specs.Ordering.{nat_cmp}
use Rattle.std.specs.declared.cmp.Ordering.TheVariants.{Less}
use Rattle.std.proofs.lemmas.Bool.{and_parts, and_right, cases_lt, le-leb, le-ltb, lt-leb, lt-ltb, ltb-true, ne_eqb, or_from, or_right}
use Rattle.std.proofs.lemmas.Bool.Decides.{Decides-eqb, nat_tests}
use Rattle.std.proofs.lemmas.List.Kept.{IsStrictlySortedBy-filter}
use Rattle.sqlite_keyed.proofs.ListLemmas.{all-append, all_weaker, filter_same}
use Rattle.sender_segments.specs.Ways.{End, is_up_to_end, leads_to}
use Rattle.sender_segments.proofs.lemmas.LedTo.{up_to_front}
use Rattle.sender_segments.proofs.lemmas.Ranks.{IsMade, number_is}
use Rattle.society_core.specs.Book.{AreOrderly, Book, IsSound, ends_of, front, held, is_in_line, is_one_of, is_there, numbers_of}
use Rattle.society_core.specs.Ends.{is_past, last_number_of, number_past}
use Rattle.society_core.proofs.lemmas.Books.{sound_order}
use Rattle.society_core.proofs.lemmas.Fronts.{front_led, has_sequence, first_holds}
use Rattle.society_core.proofs.lemmas.HeldLemmas.{held_ascend, held_waits}
use Rattle.society_core.proofs.lemmas.KeptFronts.{kept_front_fits}
use Rattle.society_core.proofs.lemmas.LineNumbers.{each_of, in_line_is, one_of_either, one_that_passes, sorted_same}
use Rattle.society_core.proofs.lemmas.NumbersThere.{numbers_ascend, there_of_numbers}
use Rattle.society_book.specs.Standing.{AreSkipped, ListsSkipped, SkipsRise, is_skipped, is_strictly_between, numbers_above, numbers_within}
use Rattle.society_book.specs.declared.skips.Skip.{Skip}
use Rattle.society_book.proofs.lemmas.shown.Skips.{last_false, order, past_fails, within_fails}
use Rattle.work_ids.specs.Segments.{base_of, most_in, segment_of, sequence_of}
use Rattle.society_book.proofs.lemmas.rows_alike.KeyRows.{last_truth}

less_holds : (a b : ℕ) → a < b → nat_cmp a b ≡ Less
less_holds a b h = grind (arith, nat_tests, h)

within_says : (above below n : ℕ) → is_strictly_between above below n ≡ true → (above < n) × (n < below)
within_says above below n h = let both = and_parts (nat_lt above n) (nat_lt n below) h in (ltb-true above n both.0, ltb-true n below both.1)

-- numbers up to one and then numbers above it, both sorted, are sorted
sorted_join : (mid : ℕ) (xs ys : List ℕ) → IsStrictlySortedBy nat_cmp xs → IsStrictlySortedBy nat_cmp ys → AllByRecursion (λ n. n ≤ mid) xs → AllByRecursion (λ n. mid < n) ys → IsStrictlySortedBy nat_cmp (xs ++ ys)
unfolding IsStrictlySortedBy
sorted_join mid [] ys one other low high = other
sorted_join mid (x ∷ xs) ys one other low high =
    let first = low.0 in (
      all-append (λ m. nat_cmp x m ≡ Less) xs ys one.0 (all_weaker (λ n. mid < n) (λ m. nat_cmp x m ≡ Less) (λ m above. less_holds x m (omega (arith, first, above))) ys high),
      sorted_join mid xs ys one.1 other low.1 high,
    )

none_sorted : IsStrictlySortedBy nat_cmp []
unfolding IsStrictlySortedBy
none_sorted = tt

-- what is skipped is in order
record IsBetween (low high n : ℕ) : Type 0 where
  above : low < n
  up_to : n ≤ high

module _ (b : Book) (s : List ℕ) where
  abbrev skipped : List Skip → List ℕ
  skipped skips = flat_map (λ skip. numbers_within b s skip.above skip.below) skips

  all_within : (above below : ℕ) → AllByRecursion (λ n. is_strictly_between above below n ≡ true) (numbers_within b s above below)
  all_within above below =
      each_of (λ n. is_strictly_between above below n ≡ true) (numbers_within b s above below)
      (λ n one. first_holds (is_strictly_between above below n) (is_one_of (numbers_of b s) n) (sym (one_that_passes (is_strictly_between above below) n (numbers_of b s)) ∙ one))

  all_above : (above : ℕ) → AllByRecursion (λ n. above < n) (numbers_above b s above)
  all_above above =
      each_of (λ n. above < n) (numbers_above b s above)
      (λ n one. ltb-true above n (first_holds (nat_lt above n) (is_one_of (numbers_of b s) n) (sym (one_that_passes (nat_lt above) n (numbers_of b s)) ∙ one)))

  skips_bound : (low high : ℕ) (skips : List Skip) → SkipsRise low skips high → AllByRecursion (IsBetween low high) (skipped skips)
  skips_bound low high [] rise = tt
  skips_bound low high (skip ∷ skips) rise =
      let first = rise.0 in
      let next = rise.1 in
      let to = rise_to skip.below high skips rise.2 in
      all-append (IsBetween low high) (numbers_within b s skip.above skip.below) (skipped skips)
      (all_weaker (λ n. is_strictly_between skip.above skip.below n ≡ true) (IsBetween low high)
      (λ n is. let both = within_says skip.above skip.below n is in let x = both.0 in let y = both.1 in record { above = omega (arith, x, first); up_to = omega (arith, y, to) })
      (numbers_within b s skip.above skip.below) (all_within skip.above skip.below))
      (all_weaker (IsBetween skip.below high) (IsBetween low high) (λ n is. let x = is.above in record { above = omega (arith, x, first, next); up_to = is.up_to }) (skipped skips) (skips_bound skip.below high skips rise.2))
    where
      rise_to : (low high : ℕ) (skips : List Skip) → SkipsRise low skips high → low ≤ high
      rise_to low high [] rise = rise
      rise_to low high (skip ∷ skips) rise = let a = rise.0 in let b = rise.1 in let rest = rise_to skip.below high skips rise.2 in omega (arith, a, b, rest)

  skips_sorted : (low high : ℕ) (skips : List Skip) → SkipsRise low skips high → IsStrictlySortedBy nat_cmp (skipped skips)
  skips_sorted low high [] rise = none_sorted
  skips_sorted low high (skip ∷ skips) rise =
      sorted_join skip.below (numbers_within b s skip.above skip.below) (skipped skips)
      (IsStrictlySortedBy-filter nat_cmp (is_strictly_between skip.above skip.below) (numbers_of b s) (numbers_ascend b s))
      (skips_sorted skip.below high skips rise.2)
      (all_weaker (λ n. is_strictly_between skip.above skip.below n ≡ true) (λ n. n ≤ skip.below) (λ n is. let high = (within_says skip.above skip.below n is).1 in omega (arith, high)) (numbers_within b s skip.above skip.below) (all_within skip.above skip.below))
      (all_weaker (IsBetween skip.below high) (λ n. skip.below < n) (λ n is. is.above) (skipped skips) (skips_bound skip.below high skips rise.2))

  -- a number is among them where it is skipped and there
  one_skipped : (skips : List Skip) (n : ℕ) → is_one_of (skipped skips) n ≡ (is_skipped skips n && is_there b s n)
  one_skipped [] n = refl
  one_skipped (skip ∷ skips) n =
      one_of_either (numbers_within b s skip.above skip.below) (skipped skips) n
      ∙ ap₂ (λ x y. x || y) (one_that_passes (is_strictly_between skip.above skip.below) n (numbers_of b s) ∙ ap (λ t. is_strictly_between skip.above skip.below n && t) (there_of_numbers b s n)) (one_skipped skips n)
      ∙ spread (is_strictly_between skip.above skip.below n) (is_skipped skips n) (is_there b s n)
    where
      spread : (x y t : Bool) → ((x && t) || (y && t)) ≡ ((x || y) && t)
      spread true true true = refl
      spread true true false = refl
      spread true false true = refl
      spread true false false = refl
      spread false y t = refl

  module _ (sound : IsSound b) (skips : List Skip) (are : AreSkipped (ends_of b s) (front b s) skips) where
    abbrev f : ℕ
    f = front b s

    orderly : AreOrderly b.transmissions b.ends s
    orderly = sound_order b sound s

    within_end : (o : Option End) (k : ℕ) → ((end : End) → o ≡ Some end → k ≤ end.last) → is_up_to_end o k ≡ true
    within_end None k h = refl
    within_end (Some end) k h = le-leb k end.last (h end refl)

    in_line : (n : ℕ) → is_in_line b s n ≡ (nat_le 1 (sequence_of n) && (nat_le n f && (leads_to (ends_of b s) n && is_up_to_end (ends_of b s (segment_of n)) (sequence_of n))))
    in_line n = in_line_is b s n ∙ up_to_front (ends_of b s) orderly.right f n (front_led b.transmissions b.ends s) (kept_front_fits b.transmissions b.ends s orderly)

    -- a number that is there is held where it is skipped or above the front
    waits : (n : ℕ) → is_there b s n ≡ true → (is_skipped skips n || nat_lt f n) ≡ not (is_in_line b s n)
    waits n there =
        ⊎_elim
        (λ (above : f < n).
        ap (λ x. is_skipped skips n || x) (lt-ltb f n above) ∙ or_right (is_skipped skips n) true refl
        ∙ sym (ap not (in_line n ∙ ap (λ x. nat_le 1 (sequence_of n) && (x && (leads_to (ends_of b s) n && is_up_to_end (ends_of b s (segment_of n)) (sequence_of n)))) (lt-leb n f above) ∙ and_right (nat_le 1 (sequence_of n)) false refl)))
        (λ (up : n ≤ f).
        let some = has_sequence b.transmissions b.ends s orderly n there in
        ap₂ (λ x y. x || y) (are.skipped n some up) (le-ltb f n up) ∙ last_false (not (leads_to (ends_of b s) n))
        ∙ sym (ap not (in_line n
        ∙ ap (λ x. x && (nat_le n f && (leads_to (ends_of b s) n && is_up_to_end (ends_of b s (segment_of n)) (sequence_of n)))) (le-leb 1 (sequence_of n) some)
        ∙ ap (λ x. x && (leads_to (ends_of b s) n && is_up_to_end (ends_of b s (segment_of n)) (sequence_of n))) (le-leb n f up)
        ∙ ap (λ x. leads_to (ends_of b s) n && x) (within_end (ends_of b s (segment_of n)) (sequence_of n) (orderly.within n there))
        ∙ last_truth (leads_to (ends_of b s) n))))
        (cases_lt f n)

    same : (n : ℕ) → is_one_of (skipped skips ++ numbers_above b s f) n ≡ is_one_of (held b s) n
    same n =
        one_of_either (skipped skips) (numbers_above b s f) n
        ∙ ap₂ (λ x y. x || y) (one_skipped skips n) (one_that_passes (nat_lt f) n (numbers_of b s) ∙ ap (λ t. nat_lt f n && t) (there_of_numbers b s n))
        ∙ by_there (is_there b s n) refl
        ∙ sym (held_waits b s n)
      where
        by_there : (t : Bool) → is_there b s n ≡ t → ((is_skipped skips n && is_there b s n) || (nat_lt f n && is_there b s n)) ≡ (not (is_in_line b s n) && is_there b s n)
        by_there true there =
            ap (λ t. (is_skipped skips n && t) || (nat_lt f n && t)) there
            ∙ ap₂ (λ x y. x || y) (last_truth (is_skipped skips n)) (last_truth (nat_lt f n))
            ∙ waits n there
            ∙ sym (ap (λ t. not (is_in_line b s n) && t) there ∙ last_truth (not (is_in_line b s n)))
        by_there false gone =
            ap (λ t. (is_skipped skips n && t) || (nat_lt f n && t)) gone
            ∙ or_from (is_skipped skips n && false) (nat_lt f n && false) (and_right (is_skipped skips n) false refl) (and_right (nat_lt f n) false refl)
            ∙ sym (ap (λ t. not (is_in_line b s n) && t) gone ∙ and_right (not (is_in_line b s n)) false refl)

    pub held_are : skipped skips ++ numbers_above b s f ≡ held b s
    held_are =
        sorted_same (skipped skips ++ numbers_above b s f) (held b s)
        (sorted_join f (skipped skips) (numbers_above b s f) (skips_sorted 0 f skips are.rise) (IsStrictlySortedBy-filter nat_cmp (nat_lt f) (numbers_of b s) (numbers_ascend b s))
        (all_weaker (IsBetween 0 f) (λ n. n ≤ f) (λ n is. is.up_to) (skipped skips) (skips_bound 0 f skips are.rise)) (all_above f))
        (held_ascend b s) same

-- the numbers that are skipped up to the front, and those above it, are those that are held
pub held_is : (b : Book) (s : List ℕ) → IsSound b → (list : List ℕ) → ListsSkipped b s (front b s) list → list ++ numbers_above b s (front b s) ≡ held b s
held_is b s sound list lists = ap (λ (ns : List ℕ). ns ++ numbers_above b s (front b s)) lists.numbers ∙ held_are b s sound lists.skips lists.are

-- ---- the numbers of a segment above a last one

lt_moved : (a k n m : ℕ) → n ≡ a + m → nat_lt (a + k) n ≡ nat_lt k m
lt_moved a k n m h = grind (arith, nat_tests, h)

-- they are those above its rank and below the rank behind the segment
past_is_within : (g last n : ℕ) → is_past g last n ≡ is_strictly_between (base_of g + last) ((base_of g + most_in g) + 1) n
past_is_within g last n =
    ⊎_elim
    (λ (former : segment_of n < g).
    let far = order (segment_of n) g former in
    ap (λ x. x && nat_lt last (sequence_of n)) (ne_eqb (segment_of n) g (λ e. omega (arith, e, former)))
    ∙ sym (within_fails (base_of g + last) ((base_of g + most_in g) + 1) n (omega (arith, made.is, made.within, far))))
    (λ (up : g ≤ segment_of n).
    ⊎_elim
    (λ (later : g < segment_of n).
    let far = order g (segment_of n) later in
    ap (λ x. x && nat_lt last (sequence_of n)) (ne_eqb (segment_of n) g (λ e. omega (arith, e, later)))
    ∙ sym (past_fails (base_of g + last) ((base_of g + most_in g) + 1) n (omega (arith, made.is, far))))
    (λ (near : segment_of n ≤ g). own (omega (arith, up, near)))
    (cases_lt g (segment_of n)))
    (cases_lt (segment_of n) g)
  where
    made : IsMade n (segment_of n) (sequence_of n)
    made = number_is n

    own : segment_of n ≡ g → is_past g last n ≡ is_strictly_between (base_of g + last) ((base_of g + most_in g) + 1) n
    own same =
        let base : base_of (segment_of n) ≡ base_of g = ap base_of same in
        let most : most_in (segment_of n) ≡ most_in g = ap most_in same in
        let at : n ≡ base_of g + sequence_of n = omega (arith, made.is, base) in
        let below : n < (base_of g + most_in g) + 1 = omega (arith, made.is, made.within, base, most) in
        ap (λ x. x && nat_lt last (sequence_of n)) ((Decides-eqb (segment_of n) g).1 same)
        ∙ sym (lt_moved (base_of g) last n (sequence_of n) at)
        ∙ sym (last_truth (nat_lt (base_of g + last) n))
        ∙ ap (λ x. nat_lt (base_of g + last) n && x) (sym (lt-ltb n ((base_of g + most_in g) + 1) below))

-- so the greatest of them is the last of these
pub past_found : (b : Book) (s : List ℕ) (g last : ℕ) → last_number_of (numbers_within b s (base_of g + last) ((base_of g + most_in g) + 1)) ≡ number_past b s g last
past_found b s g last = ap last_number_of (sym (filter_same (is_past g last) (is_strictly_between (base_of g + last) ((base_of g + most_in g) + 1)) (past_is_within g last) (numbers_of b s)))
