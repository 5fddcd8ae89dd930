-- The numbers of a sender's line: which they are, in what order, and those up to one of them.
use Rattle.std.proofs.Common.{◌≡◌, ℕ, zero, suc, ◌+◌, ◌<◌, ◌≤◌, ◌==◌, ◌&&◌, ◌||◌, Bool, true, false, cond, List, [], ◌∷◌, ◌++◌, drop, drop-cons, filter, get_or, length, nat_le, nat_lt, take, refl, ap, ap₂, sym, subst, ◌∙◌, arith, ⊎_elim}
use Rattle.std.specs.List.{AllByRecursion, list_all, range_with_len}
use Rattle.std.specs.List.Sorted.{IsStrictlySortedBy}
use Rattle.std.specs.Ordering.{nat_cmp}
use Rattle.std.specs.declared.cmp.Ordering.TheVariants.{Less}
use Rattle.std.proofs.lemmas.Bool.{cases_lt, false≢true}
use Rattle.std.proofs.lemmas.Bool.Decides.{nat_tests}
use Rattle.std.proofs.lemmas.List.{take_more, take-append-drop}
use Rattle.std.proofs.lemmas.List.Kept.{IsStrictlySortedBy-filter}
use Rattle.sender_segments.specs.Ascends.{Ascends}
use Rattle.sender_segments.proofs.lemmas.Ways.{numbers_rise}
use Rattle.work_ids.specs.Segments.{base_of, segment_of, sequence_of}
use Rattle.sender_segments.specs.Ways.{AreRight, numbers_of_segment, way_to}
use Rattle.sender_segments.proofs.lemmas.Rising.{range_rises}
use Rattle.sender_segments.proofs.lemmas.Ranks.{made_plain, number_is}
use Rattle.society_core.specs.Book.{Book, ends_of, front, is_in_line, is_one_of, is_there, line, numbers_led_through, numbers_of, numbers_to}
use Rattle.society_core.proofs.lemmas.Fronts.{first_holds, front_all, second_holds}
use Rattle.society_core.proofs.lemmas.NumbersThere.{numbers_ascend, there_of_numbers}

-- the first of some numbers is one of them, and so is one of the rest
pub is_first : (n : ℕ) (ns : List ℕ) → is_one_of (n ∷ ns) n ≡ true
is_first n ns = by_rest (is_one_of ns n)
  where
    by_rest : (r : Bool) → ((n == n) || r) ≡ true
    by_rest r = grind (arith, nat_tests)

pub is_later : (n k : ℕ) (ns : List ℕ) → is_one_of ns k ≡ true → is_one_of (n ∷ ns) k ≡ true
is_later n k ns h = ap (λ (r : Bool). (n == k) || r) h ∙ or_true (n == k)
  where
    or_true : (t : Bool) → (t || true) ≡ true
    or_true true = refl
    or_true false = refl

-- what holds of each number that is one of some holds of all of them, and the other way round
pub each_of : (P : ℕ → Type 0) (ns : List ℕ) → ((k : ℕ) → is_one_of ns k ≡ true → P k) → AllByRecursion P ns
each_of P [] each = tt
each_of P (n ∷ ns) each = (each n (is_first n ns), each_of P ns (λ k is. each k (is_later n k ns is)))

pub one_of_all : (P : ℕ → Type 0) (ns : List ℕ) (n : ℕ) → AllByRecursion P ns → is_one_of ns n ≡ true → P n
one_of_all P [] n all h = absurd (false≢true h)
one_of_all P (m ∷ ns) n all h = by_case (m == n) refl (one_of_all P ns n all.1)
  where
    by_case : (b : Bool) → (m == n) ≡ b → (is_one_of ns n ≡ true → P n) → P n
    by_case true is later = let same : m ≡ n = grind (arith, nat_tests) in subst P same all.0
    by_case false is later = later (sym (ap (λ (b : Bool). b || is_one_of ns n) is) ∙ h)

-- a number is among those that pass a test where it passes and is among all
pub one_that_passes : (passes : ℕ → Bool) (n : ℕ) (xs : List ℕ) → is_one_of (filter passes xs) n ≡ (passes n && is_one_of xs n)
one_that_passes passes n [] = none (passes n)
  where
    none : (b : Bool) → false ≡ (b && false)
    none true = refl
    none false = refl
one_that_passes passes n (x ∷ xs) = kept (passes x) ∙ ap₂ (λ (t r : Bool). t || r) (same (x == n) refl) (one_that_passes passes n xs) ∙ spread (passes n) (x == n) (is_one_of xs n)
  where
    kept : (c : Bool) → is_one_of (cond c (x ∷ filter passes xs) (filter passes xs)) n ≡ ((c && (x == n)) || is_one_of (filter passes xs) n)
    kept true = refl
    kept false = refl

    same : (e : Bool) → (x == n) ≡ e → (passes x && (x == n)) ≡ (passes n && (x == n))
    same true equal = let one : x ≡ n = grind (arith, nat_tests) in ap (λ (m : ℕ). passes m && (x == n)) one
    same false equal = ap (λ (t : Bool). passes x && t) equal ∙ neither (passes x) (passes n) ∙ sym (ap (λ (t : Bool). passes n && t) equal)
      where
        neither : (a b : Bool) → (a && false) ≡ (b && false)
        neither true true = refl
        neither true false = refl
        neither false true = refl
        neither false false = refl

    spread : (a b c : Bool) → ((a && b) || (a && c)) ≡ (a && (b || c))
    spread true b c = refl
    spread false b c = refl

-- what all of some numbers pass, one of them passes
pub one_passes : (passes : ℕ → Bool) (ns : List ℕ) (n : ℕ) → list_all passes ns ≡ true → is_one_of ns n ≡ true → passes n ≡ true
one_passes passes [] n all h = absurd (false≢true h)
one_passes passes (m ∷ ns) n all h = by_case (m == n) refl (one_passes passes ns n (second_holds (passes m) (list_all passes ns) all))
  where
    by_case : (b : Bool) → (m == n) ≡ b → (is_one_of ns n ≡ true → passes n ≡ true) → passes n ≡ true
    by_case true is later = let same : m ≡ n = grind (arith, nat_tests) in subst (λ (k : ℕ). passes k ≡ true) same (first_holds (passes m) (list_all passes ns) all)
    by_case false is later = later (sym (ap (λ (b : Bool). b || is_one_of ns n) is) ∙ h)

-- numbers that ascend are above where they begin, and at most where they end
pub ascends_within : (low high : ℕ) (ns : List ℕ) → Ascends low ns high → low ≤ high
ascends_within low high [] rise = rise
ascends_within low high (n ∷ ns) rise = let first = rise.0 in let rest = ascends_within n high ns rise.1 in omega (arith, first, rest)

pub ascends_bounds : (low high : ℕ) (ns : List ℕ) (n : ℕ) → Ascends low ns high → is_one_of ns n ≡ true → (low < n) × (n ≤ high)
ascends_bounds low high [] n rise h = absurd (false≢true h)
ascends_bounds low high (m ∷ ns) n rise h = by_case (m == n) refl (ascends_bounds m high ns n rise.1)
  where
    by_case : (b : Bool) → (m == n) ≡ b → (is_one_of ns n ≡ true → (m < n) × (n ≤ high)) → (low < n) × (n ≤ high)
    by_case true is later =
        let same : m ≡ n = grind (arith, nat_tests) in
        let first = rise.0 in
        let rest = ascends_within m high ns rise.1 in
        (omega (arith, same, first), omega (arith, same, rest))
    by_case false is later =
        let bounds = later (sym (ap (λ (b : Bool). b || is_one_of ns n) is) ∙ h) in
        let first = rise.0 in
        let above = bounds.0 in
        (omega (arith, first, above), bounds.1)

-- those of them that pass a test ascend too
pub ascends_filter : (low high : ℕ) (passes : ℕ → Bool) (ns : List ℕ) → Ascends low ns high → Ascends low (filter passes ns) high
ascends_filter low high passes [] rise = rise
ascends_filter low high passes (n ∷ ns) rise = by_case (passes n) (ascends_filter n high passes ns rise.1)
  where
    from_lower : (xs : List ℕ) → Ascends n xs high → Ascends low xs high
    from_lower [] h = let first = rise.0 in omega (arith, first, h)
    from_lower (x ∷ xs) h = (let first = rise.0 in let next = h.0 in omega (arith, first, next), h.1)

    by_case : (b : Bool) → Ascends n (filter passes ns) high → Ascends low (cond b (n ∷ filter passes ns) (filter passes ns)) high
    by_case true more = (rise.0, more)
    by_case false more = from_lower (filter passes ns) more

-- up to their end are all of them, and up to where they begin none
pub all_up_to : (low high most : ℕ) (ns : List ℕ) → Ascends low ns high → high ≤ most → filter (λ m. nat_le m most) ns ≡ ns
all_up_to low high most [] rise le = refl
all_up_to low high most (n ∷ ns) rise le =
    let rest = ascends_within n high ns rise.1 in
    let passes : nat_le n most ≡ true = holds n most (omega (arith, rest, le)) in
    ap (λ (b : Bool). cond b (n ∷ filter (λ m. nat_le m most) ns) (filter (λ m. nat_le m most) ns)) passes
    ∙ ap (λ (l : List ℕ). n ∷ l) (all_up_to n high most ns rise.1 le)
  where
    holds : (a b : ℕ) → a ≤ b → nat_le a b ≡ true
    holds a b h = grind (arith, nat_tests, h)

pub none_up_to : (low high most : ℕ) (ns : List ℕ) → Ascends low ns high → most ≤ low → filter (λ m. nat_le m most) ns ≡ []
none_up_to low high most [] rise le = refl
none_up_to low high most (n ∷ ns) rise le =
    let first = rise.0 in
    let stops : nat_le n most ≡ false = fails n most (omega (arith, first, le)) in
    ap (λ (b : Bool). cond b (n ∷ filter (λ m. nat_le m most) ns) (filter (λ m. nat_le m most) ns)) stops
    ∙ none_up_to n high most ns rise.1 (omega (arith, first, le))
  where
    fails : (a b : ℕ) → b < a → nat_le a b ≡ false
    fails a b h = grind (arith, nat_tests, h)

sorted_above : (low n high : ℕ) (ns : List ℕ) → Ascends n ns high → low ≤ n → AllByRecursion (λ m. nat_cmp low m ≡ Less) ns
sorted_above low n high [] rise le = tt
sorted_above low n high (m ∷ ns) rise le =
    let first = rise.0 in
    (below low m (omega (arith, first, le)), sorted_above low m high ns rise.1 (omega (arith, first, le)))
  where
    below : (a b : ℕ) → a < b → nat_cmp a b ≡ Less
    below a b h = grind (arith, nat_tests, h)

-- numbers that ascend are sorted, each once
pub ascends_sorted : (low high : ℕ) (ns : List ℕ) → Ascends low ns high → IsStrictlySortedBy nat_cmp ns
unfolding IsStrictlySortedBy
ascends_sorted low high [] rise = tt
ascends_sorted low high (n ∷ ns) rise = (sorted_above n n high ns rise.1 (omega arith), ascends_sorted n high ns rise.1)

-- a number is one of two lists behind one another where it is one of the first or of the second
pub one_of_either : (xs ys : List ℕ) (n : ℕ) → is_one_of (xs ++ ys) n ≡ (is_one_of xs n || is_one_of ys n)
one_of_either [] ys n = refl
one_of_either (x ∷ xs) ys n = ap (λ (r : Bool). (x == n) || r) (one_of_either xs ys n) ∙ regroup (x == n) (is_one_of xs n) (is_one_of ys n)
  where
    regroup : (a b c : Bool) → (a || (b || c)) ≡ ((a || b) || c)
    regroup true b c = refl
    regroup false b c = refl

-- a number is one of those from another on where it is not below that and below their end
pub one_of_range : (from count n : ℕ) → is_one_of (range_with_len from count) n ≡ (nat_le from n && nat_lt n (from + count))
one_of_range from zero n = grind (arith, nat_tests)
one_of_range from (suc count) n =
    ap (λ (t : Bool). (from == n) || t) (one_of_range (from + 1) count n) ∙ one_more (from + 1 + count) (omega arith)
  where
    one_more : (end : ℕ) → end ≡ from + suc count → ((from == n) || (nat_le (from + 1) n && nat_lt n end)) ≡ (nat_le from n && nat_lt n (from + suc count))
    one_more end is = grind (arith, nat_tests)

-- numbers that are sorted, each once, are one list where they have the same
pub sorted_same : (xs ys : List ℕ) → IsStrictlySortedBy nat_cmp xs → IsStrictlySortedBy nat_cmp ys → ((n : ℕ) → is_one_of xs n ≡ is_one_of ys n) → xs ≡ ys
unfolding IsStrictlySortedBy
sorted_same [] [] one other same = refl
sorted_same [] (y ∷ ys) one other same = absurd (false≢true (same y ∙ is_first y ys))
sorted_same (x ∷ xs) [] one other same = absurd (false≢true (sym (same x) ∙ is_first x xs))
sorted_same (x ∷ xs) (y ∷ ys) one other same =
    let first : x ≡ y = ⊎_elim (λ (less : x < y). absurd (below less)) (λ (not_less : y ≤ x). ⊎_elim (λ (more : y < x). absurd (above more)) (λ (no_more : x ≤ y). omega (arith, not_less, no_more)) (cases_lt y x)) (cases_lt x y) in
    ap (λ (n : ℕ). n ∷ xs) first ∙ ap (λ (l : List ℕ). y ∷ l) (sorted_same xs ys one.1 other.1 (λ n. rest first n))
  where
    less_is : (a c : ℕ) → nat_cmp a c ≡ Less → a < c
    less_is a c h = grind (arith, nat_tests, h)

    apart : (a c : ℕ) → a < c → (c == a) ≡ false
    apart a c h = grind (arith, nat_tests, h)

    equal : (a c : ℕ) → (a == c) ≡ true → a ≡ c
    equal a c h = grind (arith, nat_tests)

    later : (z : ℕ) (zs : List ℕ) (n : ℕ) → AllByRecursion (λ m. nat_cmp z m ≡ Less) zs → is_one_of zs n ≡ true → z < n
    later z zs n all h = less_is z n (one_of_all (λ m. nat_cmp z m ≡ Less) zs n all h)

    below : x < y → ⊥
    below less =
        let there : is_one_of (y ∷ ys) x ≡ true = sym (same x) ∙ is_first x xs in
        let behind : is_one_of ys x ≡ true = sym (ap (λ (t : Bool). t || is_one_of ys x) (apart x y less)) ∙ there in
        let above = later y ys x other.0 behind in
        omega (arith, less, above)

    above : y < x → ⊥
    above less =
        let there : is_one_of (x ∷ xs) y ≡ true = same y ∙ is_first y ys in
        let behind : is_one_of xs y ≡ true = sym (ap (λ (t : Bool). t || is_one_of xs y) (apart y x less)) ∙ there in
        let over = later x xs y one.0 behind in
        omega (arith, less, over)

    rest : x ≡ y → (n : ℕ) → is_one_of xs n ≡ is_one_of ys n
    rest first n = by_case (x == n) refl
      where
        none : (zs : List ℕ) → AllByRecursion (λ m. nat_cmp n m ≡ Less) zs → is_one_of zs n ≡ false
        none zs all = by_test (is_one_of zs n) refl
          where
            by_test : (t : Bool) → is_one_of zs n ≡ t → is_one_of zs n ≡ false
            by_test false is = is
            by_test true is = let over = later n zs n all is in absurd (omega (arith, over))

        by_case : (t : Bool) → (x == n) ≡ t → is_one_of xs n ≡ is_one_of ys n
        by_case true is =
            let mine : x ≡ n = equal x n is in
            none xs (subst (λ (z : ℕ). AllByRecursion (λ m. nat_cmp z m ≡ Less) xs) mine one.0)
            ∙ sym (none ys (subst (λ (z : ℕ). AllByRecursion (λ m. nat_cmp z m ≡ Less) ys) (sym first ∙ mine) other.0))
        by_case false is =
            sym (ap (λ (t : Bool). t || is_one_of xs n) is) ∙ same n ∙ ap (λ (t : Bool). t || is_one_of ys n) (ap (λ (z : ℕ). z == n) (sym first) ∙ is)

module _ (b : Book) (s : List ℕ) where
  -- a number is in the line where the ends lead through it
  pub in_line_is : (n : ℕ) → is_in_line b s n ≡ is_one_of (numbers_led_through b s) n
  unfolding line
  in_line_is n =
      one_that_passes (is_one_of (numbers_led_through b s)) n (numbers_of b s)
      ∙ ap (λ (t : Bool). is_one_of (numbers_led_through b s) n && t) (there_of_numbers b s n)
      ∙ by_case (is_one_of (numbers_led_through b s) n) refl
    where
      by_case : (t : Bool) → is_one_of (numbers_led_through b s) n ≡ t → (t && is_there b s n) ≡ t
      by_case true is = one_passes (is_there b s) (numbers_led_through b s) n (front_all b.transmissions b.ends s) is
      by_case false is = refl

  -- what is in the line is there
  pub there_in_line : (n : ℕ) → is_in_line b s n ≡ true → is_there b s n ≡ true
  there_in_line n h = one_passes (is_there b s) (numbers_led_through b s) n (front_all b.transmissions b.ends s) (sym (in_line_is n) ∙ h)

  -- the line ascends, and so do its numbers up to one
  pub line_ascends : IsStrictlySortedBy nat_cmp (line b s)
  unfolding line
  line_ascends = IsStrictlySortedBy-filter nat_cmp (is_one_of (numbers_led_through b s)) (numbers_of b s) (numbers_ascend b s)

  pub numbers_to_ascend : (n : ℕ) → IsStrictlySortedBy nat_cmp (numbers_to b s n)
  numbers_to_ascend n = IsStrictlySortedBy-filter nat_cmp (λ m. nat_le m n) (line b s) line_ascends

  -- a number is one of those up to another where it is in the line and not above that
  pub one_of_to : (f n : ℕ) → is_one_of (numbers_to b s f) n ≡ (nat_le n f && is_in_line b s n)
  one_of_to f n = one_that_passes (λ m. nat_le m f) n (line b s)

  pub in_line_of_to : (f n : ℕ) → is_one_of (numbers_to b s f) n ≡ true → is_in_line b s n ≡ true
  in_line_of_to f n h = second_holds (nat_le n f) (is_in_line b s n) (sym (one_of_to f n) ∙ h)

  pub one_of_own : (n : ℕ) → is_in_line b s n ≡ true → is_one_of (numbers_to b s n) n ≡ true
  one_of_own n h = one_of_to n n ∙ ap (λ (t : Bool). nat_le n n && t) h ∙ itself n
    where
      itself : (k : ℕ) → (nat_le k k && true) ≡ true
      itself k = grind (arith, nat_tests)

  -- where the front is a plain number, the line is from 1 to it
  plain_led_through : front b s < 1000000 → numbers_led_through b s ≡ range_with_len 1 (front b s)
  plain_led_through plain =
      let its = made_plain (front b s) plain in
      let made = number_is (front b s) in
      let base : base_of (segment_of (front b s)) ≡ 0 = ap base_of its in
      let k : sequence_of (front b s) ≡ front b s = omega (arith, made.is, base) in
      ap₂ (λ (g j : ℕ). (way_to (ends_of b s) g).passed ++ numbers_of_segment g j) its k

  pub plain_in_line : front b s < 1000000 → (n : ℕ) → is_in_line b s n ≡ (nat_le 1 n && nat_le n (front b s))
  plain_in_line plain n = in_line_is n ∙ ap (λ (ns : List ℕ). is_one_of ns n) (plain_led_through plain) ∙ one_of_range 1 (front b s) n ∙ ap (λ (t : Bool). nat_le 1 n && t) (same (1 + front b s) refl)
    where
      same : (end : ℕ) → end ≡ 1 + front b s → nat_lt n end ≡ nat_le n (front b s)
      same end is = grind (arith, nat_tests)

  pub plain_line : front b s < 1000000 → line b s ≡ range_with_len 1 (front b s)
  plain_line plain =
      sorted_same (line b s) (range_with_len 1 (front b s)) line_ascends (ascends_sorted 0 (0 + front b s) (range_with_len 1 (front b s)) (range_rises 0 (front b s)))
      (λ n. in_line_is n ∙ ap (λ (ns : List ℕ). is_one_of ns n) (plain_led_through plain))

  module _ (right : AreRight (ends_of b s)) where
    -- the line is what the ends lead through
    pub line_is : line b s ≡ numbers_led_through b s
    line_is =
        sorted_same (line b s) (numbers_led_through b s) line_ascends
        (ascends_sorted 0 (front b s) (numbers_led_through b s) (numbers_rise (ends_of b s) right (front b s)))
        (λ n. in_line_is n)

    -- it ascends to the front
    pub line_rises_to : Ascends 0 (line b s) (front b s)
    line_rises_to = subst (λ (ns : List ℕ). Ascends 0 ns (front b s)) (sym line_is) (numbers_rise (ends_of b s) right (front b s))

    pub numbers_rise_to : (n : ℕ) → Ascends 0 (numbers_to b s n) (front b s)
    numbers_rise_to n = ascends_filter 0 (front b s) (λ m. nat_le m n) (line b s) line_rises_to

    pub in_line_within : (n : ℕ) → is_in_line b s n ≡ true → n ≤ front b s
    in_line_within n h = (ascends_bounds 0 (front b s) (line b s) n line_rises_to h).1

    -- up to the front stands the whole line
    pub whole_line : numbers_to b s (front b s) ≡ line b s
    whole_line = all_up_to 0 (front b s) (front b s) (line b s) line_rises_to (omega arith)

-- the element at hand of a list of numbers: it is one of them, it comes behind those before it, and it is above all of these where they ascend
module _ (listed ns : List ℕ) (i n : ℕ) (same : listed ≡ ns) (below : i < length listed) (is : n ≡ get_or listed i n) where
  here : n ≡ get_or ns i n
  here = is ∙ ap (λ (l : List ℕ). get_or l i n) same

  within : i < length ns
  within = subst (λ (l : List ℕ). i < length l) same below

  pub listed_more : take (i + 1) ns ≡ take i ns ++ n ∷ []
  listed_more = take_more ns i n within ∙ ap (λ (m : ℕ). take i ns ++ m ∷ []) (sym here)

  pub listed_split : ns ≡ take i ns ++ n ∷ drop (suc i) ns
  listed_split = sym (take-append-drop i ns) ∙ ap (λ (l : List ℕ). take i ns ++ l) (drop-cons ns i n within ∙ ap (λ (m : ℕ). m ∷ drop (suc i) ns) (sym here))

  pub listed_one : is_one_of ns n ≡ true
  listed_one = ap (λ (l : List ℕ). is_one_of l n) listed_split ∙ one_of_either (take i ns) (n ∷ drop (suc i) ns) n ∙ ap (λ (t : Bool). is_one_of (take i ns) n || t) (is_first n (drop (suc i) ns)) ∙ or_true (is_one_of (take i ns) n)
    where
      or_true : (t : Bool) → (t || true) ≡ true
      or_true true = refl
      or_true false = refl
