-- Which numbers the ends of a sender skip on their way to a front.
use Rattle.std.proofs.Common.{◌≡◌, ◌∙◌, ◌<◌, ◌≤◌, ◌+◌, ◌-◌, ◌||◌, ◌++◌, ℕ, suc, Bool, true, false, cond, List, [], ◌∷◌, Option, Some, None, nat_le, nat_lt, not, refl, ap, ap₂, sym, subst, arith, ⊎_elim}
use Rattle.std.proofs.lemmas.Bool.{and_from, and_left, and_right, cases_lt, false≢true, le-ltb, leb-false, leb-true, lt-ltb, or_right}
use Rattle.sender_segments.specs.Ways.{AreRight, End, StatedEnds, leads_to}
use Rattle.sender_segments.proofs.lemmas.LedTo.{base_segment, led_over, led_together, skips, stops}
use Rattle.sender_segments.proofs.lemmas.Ranks.{bases_order, bases_rise, number_is}
use Rattle.sender_segments.proofs.lemmas.Ways.{segments_rise}
use Rattle.society_book.specs.EndLists.{passed_to}
use Rattle.society_book.specs.Standing.{AreSkipped, SkipsRise, is_skipped, is_strictly_between}
use Rattle.society_book.specs.declared.skips.Skip.{Skip}
use Rattle.work_ids.specs.Segments.{base_of, most_in, segment_of, sequence_of}

within_holds : (above below n : ℕ) → above < n → n < below → is_strictly_between above below n ≡ true
within_holds above below n low high = and_from (nat_lt above n) (nat_lt n below) (lt-ltb above n low) (lt-ltb n below high)

pub within_fails : (above below n : ℕ) → n ≤ above → is_strictly_between above below n ≡ false
within_fails above below n high = and_left (nat_lt above n) (nat_lt n below) (le-ltb above n high)

pub past_fails : (above below n : ℕ) → below ≤ n → is_strictly_between above below n ≡ false
past_fails above below n low = and_right (nat_lt above n) (nat_lt n below) (le-ltb n below low)

pub none_some : {X : Type 0} (x : X) → ◌≡◌ {A = Option X} None (Some x) → ⊥
none_some x e = cc

pub some_same : {X : Type 0} (x y : X) → ◌≡◌ {A = Option X} (Some x) (Some y) → x ≡ y
some_same x y e = cc

-- a later segment begins behind a former one
pub order : (low high : ℕ) → low < high → base_of low + most_in low < base_of high
order low high less =
    let k = high - suc low in
    let e : suc low + k ≡ high = omega (arith, less) in
    subst (λ (h : ℕ). base_of low + most_in low < base_of h) e (bases_order low k)

-- an end whose first rank behind is not above a front
record IsPassed (front : ℕ) (o : Option End) (next : ℕ) : Type 0 where
  end : End
  is : o ≡ Some end
  at : next ≡ base_of end.next
  within : base_of end.next ≤ front

passed_is : (front : ℕ) (o : Option End) (next : ℕ) → passed_to front o ≡ Some next → IsPassed front o next
passed_is front None next h = absurd (none_some next h)
passed_is front (Some end) next h = by_case (nat_le (base_of end.next) front) refl h
  where
    by_case : (c : Bool) → nat_le (base_of end.next) front ≡ c → cond c (Some (base_of end.next)) None ≡ Some next → IsPassed front (Some end) next
    by_case true le is = record { end = end; is = refl; at = sym (some_same (base_of end.next) next is); within = leb-true (base_of end.next) front le }
    by_case false le is = absurd (none_some next is)

not_passed : (front : ℕ) (end : End) → passed_to front (Some end) ≡ None → front < base_of end.next
not_passed front end h = by_case (nat_le (base_of end.next) front) refl h
  where
    by_case : (c : Bool) → nat_le (base_of end.next) front ≡ c → cond c (Some (base_of end.next)) None ≡ None → front < base_of end.next
    by_case true le is = absurd (none_some (base_of end.next) (sym is))
    by_case false le is = leb-false (base_of end.next) front le

-- skips that rise up to a rank rise up to each later one
rises_on : (low high to : ℕ) (list : List Skip) → SkipsRise low list high → high ≤ to → SkipsRise low list to
rises_on low high to [] rise le = omega (arith, rise, le)
rises_on low high to (skip ∷ list) rise le = (rise.0, rise.1, rises_on skip.below high to list rise.2 le)

-- one skip more
rises_with : (low high : ℕ) (list : List Skip) (skip : Skip) → SkipsRise low list high → high ≤ skip.above → skip.above < skip.below → SkipsRise low (list ++ skip ∷ []) skip.below
rises_with low high [] skip rise above below = (omega (arith, rise, above), below, omega arith)
rises_with low high (first ∷ list) skip rise above below = (rise.0, rise.1, rises_with first.below high list skip rise.2 above below)

rise_within : (low high : ℕ) (list : List Skip) → SkipsRise low list high → low ≤ high
rise_within low high [] rise = rise
rise_within low high (skip ∷ list) rise = let a = rise.0 in let b = rise.1 in let rest = rise_within skip.below high list rise.2 in omega (arith, a, b, rest)

-- none behind them is skipped
none_skipped : (low high n : ℕ) (list : List Skip) → SkipsRise low list high → high ≤ n → is_skipped list n ≡ false
none_skipped low high n [] rise le = refl
none_skipped low high n (skip ∷ list) rise le =
    let rest = rise_within skip.below high list rise.2 in
    ap₂ (λ x y. x || y) (past_fails skip.above skip.below n (omega (arith, rest, le))) (none_skipped skip.below high n list rise.2 le)

pub last_false : (x : Bool) → (x || false) ≡ x
last_false true = refl
last_false false = refl

skipped_with : (list : List Skip) (skip : Skip) (n : ℕ) → is_skipped (list ++ skip ∷ []) n ≡ (is_skipped list n || is_strictly_between skip.above skip.below n)
skipped_with [] skip n = last_false (is_strictly_between skip.above skip.below n)
skipped_with (first ∷ list) skip n = ap (λ x. is_strictly_between first.above first.below n || x) (skipped_with list skip n) ∙ regroup (is_strictly_between first.above first.below n) (is_skipped list n) (is_strictly_between skip.above skip.below n)
  where
    regroup : (x y z : Bool) → (x || (y || z)) ≡ ((x || y) || z)
    regroup true y z = refl
    regroup false y z = refl

module _ (ends : StatedEnds) (right : AreRight ends) (front : ℕ) where
  -- what is skipped before a segment to which the ends lead
  pub record AreSkippedTo (first : ℕ) (list : List Skip) : Type 0 where
    pub led : leads_to ends first ≡ true
    pub begins : first ≡ base_of (segment_of first)
    pub within : first ≤ front
    pub rise : SkipsRise 0 list first
    pub skipped : (n : ℕ) → 1 ≤ sequence_of n → segment_of n < segment_of first → is_skipped list n ≡ not (leads_to ends n)

  module _ (first : ℕ) (list : List Skip) (so_far : AreSkippedTo first list) where
    abbrev g : ℕ
    g = segment_of first

    -- numbers of a segment are behind its first rank
    behind : (n : ℕ) → 1 ≤ sequence_of n → (base_of (segment_of n) < n) × (n ≤ base_of (segment_of n) + most_in (segment_of n))
    behind n some = let made = number_is n in (omega (arith, made.is, some), omega (arith, made.is, made.within))

    module _ (next : ℕ) (passed : passed_to front (ends g) ≡ Some next) where
      by : IsPassed front (ends g) next
      by = passed_is front (ends g) next passed

      later : g < by.end.next
      later = right.later g by.end by.is

      next_segment : segment_of next ≡ by.end.next
      next_segment = ap segment_of by.at ∙ base_segment by.end.next

      first_below : first ≤ base_of (suc g)
      first_below = let at = so_far.begins in let up = bases_rise g in omega (arith, at, up)

      -- which of the numbers before the next segment a skip between the two has
      module _ (n : ℕ) (some : 1 ≤ sequence_of n) where
        of_former : segment_of n < g → is_strictly_between (base_of (suc g)) next n ≡ false
        of_former before =
            let its = behind n some in
            let far = order (segment_of n) g before in
            let low = its.1 in
            let up = bases_rise g in
            within_fails (base_of (suc g)) next n (omega (arith, low, far, up))

        of_own : segment_of n ≡ g → (is_strictly_between (base_of (suc g)) next n ≡ false) × (is_skipped list n ≡ false) × (leads_to ends n ≡ true)
        of_own same =
            let its = behind n some in
            let low = its.0 in
            let high = its.1 in
            let up = bases_rise g in
            let base : base_of (segment_of n) ≡ base_of g = ap base_of same in
            let most : most_in (segment_of n) ≡ most_in g = ap most_in same in
            let at = so_far.begins in (
              within_fails (base_of (suc g)) next n (omega (arith, high, base, most, up)),
              none_skipped 0 first n list so_far.rise (omega (arith, low, base, at)),
              led_together ends right first n (sym same) so_far.led,
            )

        of_skipped : g < segment_of n → segment_of n < by.end.next → (is_strictly_between (base_of (suc g)) next n ≡ true) × (leads_to ends n ≡ false) × (base_of (suc g) < next)
        of_skipped after before =
            let its = behind n some in
            let low = its.0 in
            let high = its.1 in
            let far = order (segment_of n) by.end.next before in
            let to = by.at in
            let from : base_of (suc g) ≤ base_of (segment_of n) =
            ⊎_elim
            (λ (apart : suc g < segment_of n). let x = order (suc g) (segment_of n) apart in let le : base_of (suc g) ≤ base_of (segment_of n) = omega (arith, x) in le)
            (λ (near : segment_of n ≤ suc g). let e : suc g ≡ segment_of n = omega (arith, near, after) in subst (λ (h : ℕ). base_of (suc g) ≤ base_of h) e (let le : base_of (suc g) ≤ base_of (suc g) = omega arith in le))
            (cases_lt (suc g) (segment_of n)) in (
              within_holds (base_of (suc g)) next n (omega (arith, from, low)) (omega (arith, high, far, to)),
              skips ends right first n by.end so_far.led by.is after before,
              omega (arith, from, low, high, far, to),
            )

      led_next : leads_to ends next ≡ true
      led_next = subst (λ (m : ℕ). leads_to ends m ≡ true) (sym by.at) (led_over ends right first by.end so_far.led by.is)

      begins_next : next ≡ base_of (segment_of next)
      begins_next = by.at ∙ ap base_of (sym next_segment)

      within_next : next ≤ front
      within_next = let le = by.within in let at = by.at in omega (arith, le, at)

      by_place : (n : ℕ) → segment_of n < segment_of next → (P : Type 0) → (segment_of n < g → P) → (segment_of n ≡ g → P) → (g < segment_of n → segment_of n < by.end.next → P) → P
      by_place n before P former own skipped =
          let at = next_segment in
          ⊎_elim former
          (λ (up : g ≤ segment_of n).
          ⊎_elim (λ (after : g < segment_of n). skipped after (omega (arith, before, at))) (λ (near : segment_of n ≤ g). own (omega (arith, up, near))) (cases_lt g (segment_of n)))
          (cases_lt (segment_of n) g)

      -- with the skip between the two segments
      pub with_skip : base_of (suc g) < next → AreSkippedTo next (list ++ record { above = base_of (suc g); below = next } ∷ [])
      with_skip apart =
          let skip : Skip = record { above = base_of (suc g); below = next } in
          record {
            led = led_next;
            begins = begins_next;
            within = within_next;
            rise = rises_with 0 first list skip so_far.rise first_below apart;
            skipped = λ n some before.
                skipped_with list skip n
                ∙ by_place n before ((is_skipped list n || is_strictly_between (base_of (suc g)) next n) ≡ not (leads_to ends n))
                (λ former. ap₂ (λ x y. x || y) (so_far.skipped n some former) (of_former n some former) ∙ last_false (not (leads_to ends n)))
                (λ own. let is = of_own n some own in ap₂ (λ x y. x || y) is.1 is.0 ∙ sym (ap not is.2))
                (λ after till. let is = of_skipped n some after till in ap (λ y. is_skipped list n || y) is.0 ∙ or_right (is_skipped list n) true refl ∙ sym (ap not is.1));
          }

      -- with none where they follow one another
      pub without_skip : next ≤ base_of (suc g) → AreSkippedTo next list
      without_skip near = record {
        led = led_next;
        begins = begins_next;
        within = within_next;
        rise = rises_on 0 first next list so_far.rise (let at = so_far.begins in let to = by.at in let far = order g by.end.next later in omega (arith, at, to, far));
        skipped = λ n some before.
            by_place n before (is_skipped list n ≡ not (leads_to ends n))
            (λ former. so_far.skipped n some former)
            (λ own. let is = of_own n some own in is.1 ∙ sym (ap not is.2))
            (λ after till. let is = of_skipped n some after till in let less = is.2 in absurd (omega (arith, less, near)));
      }

    -- where no further end is passed, all that is skipped up to the front is
    pub all_skipped : leads_to ends front ≡ true → passed_to front (ends g) ≡ None → AreSkipped ends front list
    all_skipped led_front passed = record {
      rise = rises_on 0 first front list so_far.rise so_far.within;
      skipped = λ n some le.
          ⊎_elim
          (λ (former : segment_of n < g). so_far.skipped n some former)
          (λ (up : g ≤ segment_of n).
          ⊎_elim
          (λ (after : g < segment_of n). absurd (beyond (let rise = segments_rise n front le in omega (arith, after, rise))))
          (λ (near : segment_of n ≤ g).
          let same : segment_of n ≡ g = omega (arith, up, near) in
          let low = (behind n some).0 in
          let base : base_of (segment_of n) ≡ base_of g = ap base_of same in
          let at = so_far.begins in
          none_skipped 0 first n list so_far.rise (omega (arith, low, base, at)) ∙ sym (ap not (led_together ends right first n (sym same) so_far.led)))
          (cases_lt g (segment_of n)))
          (cases_lt (segment_of n) g);
    }
      where
        beyond : g < segment_of front → ⊥
        beyond after = by_end (ends g) refl
          where
            by_end : (o : Option End) → ends g ≡ o → ⊥
            by_end None bare = false≢true (sym (stops ends right first front so_far.led bare after) ∙ led_front)
            by_end (Some end) ended =
                let before = not_passed front end (sym (ap (passed_to front) ended) ∙ passed) in
                let made = number_is front in
                let less : segment_of front < end.next =
                ⊎_elim
                (λ (h : segment_of front < end.next). h)
                (λ (h : end.next ≤ segment_of front).
                let far : base_of end.next ≤ base_of (segment_of front) =
                ⊎_elim
                (λ (apart : end.next < segment_of front). let x = order end.next (segment_of front) apart in let le : base_of end.next ≤ base_of (segment_of front) = omega (arith, x) in le)
                (λ (near : segment_of front ≤ end.next). let e : end.next ≡ segment_of front = omega (arith, h, near) in subst (λ (k : ℕ). base_of end.next ≤ base_of k) e (let le : base_of end.next ≤ base_of end.next = omega arith in le))
                (cases_lt end.next (segment_of front)) in
                absurd (omega (arith, far, made.is, before)))
                (cases_lt (segment_of front) end.next) in
                false≢true (sym (skips ends right first front end so_far.led ended after less) ∙ led_front)
