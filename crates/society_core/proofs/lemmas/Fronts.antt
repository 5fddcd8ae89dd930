-- A sender's front is the only number that is reached and at which there is a gap.
use Rattle.std.proofs.Common.{◌≡◌, ℕ, zero, suc, ◌+◌, ◌-◌, ◌<◌, ◌≤◌, ◌==◌, max, Bool, true, false, cond, nat_le, ◌&&◌, ◌||◌, List, [], ◌∷◌, ◌++◌, Option, Some, None, map, refl, ap, sym, subst, ◌∙◌, arith, ⊎_elim}
use Rattle.std.specs.List.{list_all, list_any}
use Rattle.std.specs.Ordering.{eq_by_cmp}
use Rattle.std.specs.FinMap as finite
use Rattle.std.proofs.lemmas.Bool.{false≢true, cases_lt, cases_Bool}
use Rattle.std.proofs.lemmas.Bool.Decides.{eqb_tells, nat_tests}
use Rattle.std.proofs.lemmas.List.Folds.{list_all-append}
use Rattle.work_ids.specs.Segments.{base_of, greatest_rank, most_in, segment_of, sequence_of}
use Rattle.sender_segments.specs.Ways.{AreRight, End, IsGap, StatedEnds, Way, greatest_passing, is_reached, leads_to, numbers_up_to, on_by, way_to}
use Rattle.sender_segments.proofs.lemmas.Grows.{front_only as only_front}
use Rattle.sender_segments.proofs.lemmas.Ranks.{bases_order, number_is, room_before}
use Rattle.sender_segments.proofs.lemmas.Reached.{leads_is, next_numbers, next_reached, over_reached}
use Rattle.sender_segments.proofs.lemmas.Ways.{on_apart}
use Rattle.society_core.specs.Book.{AreOrderly, Ends, Transmissions, ends_among, front_in, greatest_base, greatest_of, is_among}
use Rattle.society_core.specs.Keys.{segment_cmp, segment_key, transmission_key, transmission_cmp}
use Rattle.society_core.specs.declared.segment_key.SegmentKey.{SegmentKey}
use Rattle.society_core.specs.declared.transmission_key.TransmissionKey.{TransmissionKey}
use Rattle.society_core.proofs.lemmas.KeyOrders.{exact_transmissions}
use Rattle.society_core.proofs.lemmas.Inserts.{tied}

-- both parts of a test that holds
pub first_holds : (a b : Bool) → (a && b) ≡ true → a ≡ true
first_holds true b h = refl
first_holds false b h = absurd (false≢true h)

pub second_holds : (a b : Bool) → (a && b) ≡ true → b ≡ true
second_holds true b h = h
second_holds false b h = absurd (false≢true h)

-- two tests that hold
pub both_hold : (a b : Bool) → a ≡ true → b ≡ true → (a && b) ≡ true
both_hold a b h g = cc

below_either : (b rest : Bool) (n k m : ℕ) → (b ≡ true → n ≤ k) → (rest ≡ true → n ≤ m) → (b || rest) ≡ true → n ≤ max k m
below_either true rest n k m here there h = let bound : n ≤ k = here refl in omega arith
below_either false rest n k m here there h = let bound : n ≤ m = there h in omega arith

-- a slot that is among some is at most their greatest number
within_greatest : (slots : List TransmissionKey) (q : TransmissionKey) → list_any (eq_by_cmp transmission_cmp q) slots ≡ true → q.number ≤ greatest_of slots
within_greatest [] q h = absurd (false≢true h)
within_greatest (k ∷ slots) q h =
    below_either (eq_by_cmp transmission_cmp q k) (list_any (eq_by_cmp transmission_cmp q) slots) q.number k.number (greatest_of slots)
    (λ e. let same : q.number ≡ k.number = ap (λ (s : TransmissionKey). s.number) (exact_transmissions q k (tied (transmission_cmp q k) e)) in omega arith)
    (within_greatest slots q) h

some_is : (a b : End) → Some a ≡ Some b → a ≡ b
some_is a b e = cc

-- an end that is among some lets no segment begin above their greatest base
within_base : (es : List (SegmentKey × End)) (q : SegmentKey) (e : End) → finite.find segment_cmp q es ≡ Some e → base_of e.next ≤ greatest_base (map (λ x. x.1) es)
within_base [] q e h = absurd (none h)
  where
    none : ◌≡◌ {A = Option End} None (Some e) → ⊥
    none h = cc
within_base (x ∷ es) q e h = by_case (eq_by_cmp segment_cmp q x.0) refl (within_base es q e)
  where
    by_case : (b : Bool) → eq_by_cmp segment_cmp q x.0 ≡ b → (finite.find segment_cmp q es ≡ Some e → base_of e.next ≤ greatest_base (map (λ x. x.1) es)) → base_of e.next ≤ max (base_of x.1.next) (greatest_base (map (λ x. x.1) es))
    by_case true is behind =
        let same : x.1 ≡ e = some_is x.1 e (sym (ap (λ (b : Bool). cond b (Some x.1) (finite.find segment_cmp q es)) is) ∙ h) in
        let base : base_of x.1.next ≡ base_of e.next = ap (λ (y : End). base_of y.next) same in
        omega (arith, base)
    by_case false is behind =
        let later = behind (sym (ap (λ (b : Bool). cond b (Some x.1) (finite.find segment_cmp q es)) is) ∙ h) in
        omega (arith, later)

-- a way that has come behind the plain segment was led there by an end
pub led_there : (ends : StatedEnds) (h : ℕ) → 1 ≤ (way_to ends h).at → (g : ℕ) × (e : End) × (ends g ≡ Some e) × (e.next ≡ (way_to ends h).at)
led_there ends zero some = absurd (omega (arith, some))
led_there ends (suc h) some = ⊎_elim (here (led_there ends h)) (apart (led_there ends h)) (eqb_tells (way_to ends h).at h)
  where
    Led : ℕ → Type 0
    Led at = (g : ℕ) × (e : End) × (ends g ≡ Some e) × (e.next ≡ at)

    still : (w : Way) → way_to ends (suc h) ≡ w → Led w.at → Led (way_to ends (suc h)).at
    still w is led = subst (λ (v : Way). Led v.at) (sym is) led

    Before : Type 0
    Before = 1 ≤ (way_to ends h).at → Led (way_to ends h).at

    before : Before → way_to ends (suc h) ≡ way_to ends h → Led (way_to ends (suc h)).at
    before earlier same = still (way_to ends h) same (earlier (subst (λ (w : Way). 1 ≤ w.at) same some))

    by_end : Before → (o : Option End) → ends h ≡ o → (way_to ends h).at == h ≡ true → Led (way_to ends (suc h)).at
    by_end earlier None bare is = before earlier (ap (on_by (way_to ends h) h) bare)
    by_end earlier (Some e) ended is =
        let goes : (way_to ends (suc h)).at ≡ e.next = ap (λ (o : Option End). (on_by (way_to ends h) h o).at) ended ∙ at_end ((way_to ends h).at == h) is in
        (h, e, ended, sym goes)
      where
        at_end : (b : Bool) → b ≡ true → (cond b (record { at = e.next; passed = (way_to ends h).passed ++ Rattle.sender_segments.specs.Ways.numbers_of_segment h e.last }) (way_to ends h)).at ≡ e.next
        at_end true is = refl
        at_end false is = absurd (false≢true is)

    here : Before → (((way_to ends h).at == h) ≡ true) × ((way_to ends h).at ≡ h) → Led (way_to ends (suc h)).at
    here earlier is = by_end earlier (ends h) refl is.0

    apart : Before → (((way_to ends h).at == h) ≡ false) × ((way_to ends h).at ≡ h → ⊥) → Led (way_to ends (suc h)).at
    apart earlier is = before earlier (on_apart (way_to ends h) h (ends h) is.1)

greatest_passes : (p : ℕ → Bool) (limit : ℕ) → p 0 ≡ true → p (greatest_passing limit p) ≡ true
greatest_passes p zero h = h
greatest_passes p (suc m) h =
    ⊎_elim
    (λ (yes : p (suc m) ≡ true). subst (λ (n : ℕ). p n ≡ true) (sym (ap (λ (b : Bool). cond b (suc m) (greatest_passing m p)) yes)) yes)
    (λ (no : p (suc m) ≡ false). subst (λ (n : ℕ). p n ≡ true) (sym (ap (λ (b : Bool). cond b (suc m) (greatest_passing m p)) no)) (greatest_passes p m h))
    (cases_Bool (p (suc m)))

-- a number that passes is at most the greatest one
greatest_above : (p : ℕ → Bool) (limit n : ℕ) → p n ≡ true → n ≤ limit → n ≤ greatest_passing limit p
greatest_above p zero n h le = le
greatest_above p (suc m) n h le =
    ⊎_elim
    (λ (yes : p (suc m) ≡ true). subst (λ (k : ℕ). n ≤ k) (sym (ap (λ (b : Bool). cond b (suc m) (greatest_passing m p)) yes)) le)
    (λ (no : p (suc m) ≡ false).
    subst (λ (k : ℕ). n ≤ k) (sym (ap (λ (b : Bool). cond b (suc m) (greatest_passing m p)) no))
    (⊎_elim
    (λ (below : n < suc m). greatest_above p m n h (omega arith))
    (λ (reached : suc m ≤ n).
    let same : n ≡ suc m = omega arith in
    absurd (false≢true (sym no ∙ subst (λ (k : ℕ). p k ≡ true) same h)))
    (cases_lt n (suc m))))
    (cases_Bool (p (suc m)))

module _ (m : Transmissions) (ends : Ends) (s : List ℕ) where
  -- the transmissions up to the front are all there, and the ends lead to it
  pub all_there : is_reached (is_among m s) (ends_among ends s) (front_in m ends s) ≡ true
  unfolding front_in
  all_there = greatest_passes (is_reached (is_among m s) (ends_among ends s)) (max (greatest_of (finite.keys m)) (greatest_base (finite.values ends))) refl

  pub front_led : leads_to (ends_among ends s) (front_in m ends s) ≡ true
  front_led = first_holds (leads_to (ends_among ends s) (front_in m ends s)) (list_all (is_among m s) (numbers_up_to (ends_among ends s) (front_in m ends s))) all_there

  pub front_all : list_all (is_among m s) (numbers_up_to (ends_among ends s) (front_in m ends s)) ≡ true
  front_all = second_holds (leads_to (ends_among ends s) (front_in m ends s)) (list_all (is_among m s) (numbers_up_to (ends_among ends s) (front_in m ends s))) all_there

  -- a transmission that is there has at most the greatest number
  there_within : (n : ℕ) → is_among m s n ≡ true → n ≤ greatest_of (finite.keys m)
  there_within n h = within_greatest (finite.keys m) (transmission_key s n) (sym (finite.contains_key-keys m (transmission_key s n)) ∙ h)

  module _ (right : AreRight (ends_among ends s)) where
    -- a number that is reached is at most the limit up to which a front is looked for
    at_most : (n : ℕ) → is_reached (is_among m s) (ends_among ends s) n ≡ true → n ≤ max (greatest_of (finite.keys m)) (greatest_base (finite.values ends))
    at_most n h = ⊎_elim none some (cases_lt (sequence_of n) 1)
      where
        stated : StatedEnds
        stated = ends_among ends s

        led : leads_to stated n ≡ true
        led = first_holds (leads_to stated n) (list_all (is_among m s) (numbers_up_to stated n)) h

        Within : Type 0
        Within = n ≤ max (greatest_of (finite.keys m)) (greatest_base (finite.values ends))

        none : sequence_of n < 1 → Within
        none zero_of = ⊎_elim plain dated (cases_lt (segment_of n) 1)
          where
            made : base_of (segment_of n) + sequence_of n ≡ n
            made = (number_is n).is

            plain : segment_of n < 1 → Within
            plain first =
                let g : segment_of n ≡ 0 = omega (arith, first) in
                let base : base_of (segment_of n) ≡ 0 = ap base_of g in
                omega (arith, made, base, zero_of)

            dated : 1 ≤ segment_of n → Within
            dated later =
                let at = leads_is stated right n led in
                let by = led_there stated (segment_of n) (omega (arith, at, later)) in
                let bound = within_base (finite.entries ends) (segment_key s by.0) by.1 (sym (finite.get-entries ends (segment_key s by.0)) ∙ by.2) in
                let base : base_of by.1.next ≡ base_of (segment_of n) = ap base_of (by.3 ∙ at) in
                omega (arith, made, base, zero_of, bound)

        some : 1 ≤ sequence_of n → Within
        some has =
            let k = n - 1 in
            let made = number_is n in
            let next : k + 1 ≡ n = omega (arith, made.is, has) in
            let room = room_before k (subst (λ (j : ℕ). 1 ≤ sequence_of j) (sym next) has) in
            let ends_so = next_numbers stated right k room in
            let all : list_all (is_among m s) (numbers_up_to stated n) ≡ true = second_holds (leads_to stated n) (list_all (is_among m s) (numbers_up_to stated n)) h in
            let split : list_all (is_among m s) (numbers_up_to stated k ++ (k + 1) ∷ []) ≡ true = subst (λ (l : List ℕ). list_all (is_among m s) l ≡ true) ends_so (subst (λ (j : ℕ). list_all (is_among m s) (numbers_up_to stated j) ≡ true) (sym next) all) in
            let last = second_holds (list_all (is_among m s) (numbers_up_to stated k)) (is_among m s (k + 1) && true) (sym (list_all-append (is_among m s) (numbers_up_to stated k) ((k + 1) ∷ [])) ∙ split) in
            let there = first_holds (is_among m s (k + 1)) true last in
            let bound = there_within (k + 1) there in
            omega (arith, next, bound)

    -- the front is the only number that is reached and at which there is a gap
    pub front_only : (n : ℕ) → is_reached (is_among m s) (ends_among ends s) n ≡ true → IsGap (is_among m s) (ends_among ends s) n → n ≡ front_in m ends s
    unfolding front_in
    front_only n reached gap =
        only_front (is_among m s) (ends_among ends s) (max (greatest_of (finite.keys m)) (greatest_base (finite.values ends))) n right reached gap (at_most n reached)

    -- what is reached is at most the front
    pub front_reaches : (n : ℕ) → is_reached (is_among m s) (ends_among ends s) n ≡ true → n ≤ front_in m ends s
    unfolding front_in
    front_reaches n h = greatest_above (is_reached (is_among m s) (ends_among ends s)) (max (greatest_of (finite.keys m)) (greatest_base (finite.values ends))) n h (at_most n h)

  module _ (order : AreOrderly m ends s) where
    -- a number that is there is one of its segment
    pub has_sequence : (n : ℕ) → is_among m s n ≡ true → 1 ≤ sequence_of n
    has_sequence n h =
        let first : nat_le 1 (sequence_of n) ≡ true = first_holds (nat_le 1 (sequence_of n)) (nat_le (segment_of n) 100) (order.numbers n h) in
        grind (arith, nat_tests)

    -- behind the front stands the first gap
    pub front_gap : IsGap (is_among m s) (ends_among ends s) (front_in m ends s)
    front_gap = record {
      missing = ⊎_elim goes_on (λ (gap : is_among m s (front_in m ends s + 1) ≡ false). gap) (cases_Bool (is_among m s (front_in m ends s + 1)));
      before_end = λ e ended. ⊎_elim (λ (before : sequence_of (front_in m ends s) < e.last). before) (λ (over : e.last ≤ sequence_of (front_in m ends s)). absurd (goes_over e ended over)) (cases_lt (sequence_of (front_in m ends s)) e.last);
    }
      where
        goes_on : is_among m s (front_in m ends s + 1) ≡ true → is_among m s (front_in m ends s + 1) ≡ false
        goes_on there =
            let f = front_in m ends s in
            let room = room_before f (has_sequence (f + 1) there) in
            let above = front_reaches order.right (f + 1) (next_reached (ends_among ends s) order.right (is_among m s) f room all_there there) in
            absurd (omega (arith, above))

        goes_over : (e : End) → ends_among ends s (segment_of (front_in m ends s)) ≡ Some e → e.last ≤ sequence_of (front_in m ends s) → ⊥
        goes_over e ended over =
            let f = front_in m ends s in
            let above = front_reaches order.right (base_of e.next) (over_reached (ends_among ends s) order.right (is_among m s) f e all_there ended over) in
            let later = order.right.later (segment_of f) e ended in
            let k = e.next - suc (segment_of f) in
            let at : suc (segment_of f) + k ≡ e.next = omega (arith, later) in
            let far = subst (λ (g : ℕ). base_of (segment_of f) + most_in (segment_of f) < base_of g) at (bases_order (segment_of f) k) in
            let made = number_is f in
            omega (arith, made.is, made.within, far, above)

    -- no front is past the last number of the last year
    pub front_within : front_in m ends s ≤ greatest_rank
    front_within =
        let made = number_is (front_in m ends s) in
        let top = last_number (segment_of (front_in m ends s)) (⊎_elim plain dated (cases_lt (segment_of (front_in m ends s)) 1)) in
        omega (arith, made.is, made.within, top)
      where
        plain : segment_of (front_in m ends s) < 1 → segment_of (front_in m ends s) ≤ 100
        plain first = omega (arith, first)

        dated : 1 ≤ segment_of (front_in m ends s) → segment_of (front_in m ends s) ≤ 100
        dated later =
            let at = leads_is (ends_among ends s) order.right (front_in m ends s) front_led in
            let by = led_there (ends_among ends s) (segment_of (front_in m ends s)) (omega (arith, at, later)) in
            let year = order.years by.0 by.1 by.2 in
            let next = by.3 in
            omega (arith, year, next, at)

        last_number : (g : ℕ) → g ≤ 100 → base_of g + most_in g ≤ greatest_rank
        last_number zero h = omega arith
        last_number (suc y) h = omega (arith, h)
