-- Which numbers are reached, and how far they go on.
use Rattle.std.proofs.Common.{◌≡◌, ℕ, zero, suc, ◌+◌, ◌-◌, ◌<◌, ◌≤◌, ◌==◌, ◌&&◌, Bool, true, false, List, [], ◌∷◌, ◌++◌, Some, refl, ap, ap₂, sym, subst, ◌∙◌, arith, ⊎_elim}
use Rattle.std.proofs.lemmas.Bool.{cases_lt, cases_Bool, false≢true}
use Rattle.std.proofs.lemmas.Bool.Decides.{Decides-eqb}
use Rattle.std.proofs.lemmas.List.{append-nil}
use Rattle.std.proofs.lemmas.List.Folds.{list_all-append}
use Rattle.std.specs.List.{list_all, range_with_len}
use Rattle.sender_segments.specs.Ascends.{Ascends}
use Rattle.work_ids.specs.Segments.{base_of, most_in, segment_of, sequence_of}
use Rattle.sender_segments.specs.Ways.{AreRight, End, StatedEnds, IsGap, IsWithinEnd, Way, is_reached, leads_to, numbers_of_segment, numbers_up_to, way_to}
use Rattle.sender_segments.proofs.lemmas.Ranks.{IsMade, number_is, segment_is}
use Rattle.sender_segments.proofs.lemmas.Ways.{GoesOn, goes_over, goes_within, within, on_apart, passed_by, passed_over, segments_rise}

-- both parts of a test that holds
first_holds : (a b : Bool) → (a && b) ≡ true → a ≡ true
first_holds true b h = refl
first_holds false b h = absurd (false≢true h)

second_holds : (a b : Bool) → (a && b) ≡ true → b ≡ true
second_holds true b h = h
second_holds false b h = absurd (false≢true h)

both_hold : (a b : Bool) → a ≡ true → b ≡ true → (a && b) ≡ true
both_hold true b h g = g
both_hold false b h g = absurd (false≢true h)

-- the numbers up to one go on to another
pub record Continues (ends : StatedEnds) (n m : ℕ) : Type 0 where
  pub more : List ℕ
  pub is : numbers_up_to ends m ≡ numbers_up_to ends n ++ more
  pub rises : Ascends n more m

module _ (ends : StatedEnds) (right : AreRight ends) where
  pub leads_is : (n : ℕ) → leads_to ends n ≡ true → (way_to ends (segment_of n)).at ≡ segment_of n
  leads_is n h = (Decides-eqb (way_to ends (segment_of n)).at (segment_of n)).0 h

  as_numbers : (n m : ℕ) → GoesOn ends right (segment_of n) (sequence_of n) (segment_of m) (sequence_of m) → Continues ends n m
  as_numbers n m on = record {
    more = on.more;
    is = on.is;
    rises =
        subst (λ (b : ℕ). Ascends n on.more b) (number_is m).is
        (subst (λ (a : ℕ). Ascends a on.more (base_of (segment_of m) + sequence_of m)) (number_is n).is on.rises);
  }

  -- a number that is led to goes on to each later one
  pub goes_on : (n m : ℕ) → n ≤ m → leads_to ends n ≡ true → leads_to ends m ≡ true → IsWithinEnd ends n → GoesOn ends right (segment_of n) (sequence_of n) (segment_of m) (sequence_of m)
  goes_on n m le from to within =
      let rise = segments_rise n m le in
      ⊎_elim
      (λ (later : segment_of n < segment_of m).
      let k = segment_of m - suc (segment_of n) in
      let e : suc (segment_of n) + k ≡ segment_of m = omega (arith, later) in
      let here = leads_is n from in
      let there : (way_to ends (suc (segment_of n) + k)).at ≡ suc (segment_of n) + k = subst (λ (g : ℕ). (way_to ends g).at ≡ g) (sym e) (leads_is m to) in
      let ended = passed_by ends (segment_of n) k here there in
      subst (λ (g : ℕ). GoesOn ends right (segment_of n) (sequence_of n) g (sequence_of m)) e
      (goes_over ends right (segment_of n) (sequence_of n) k (sequence_of m) ended.0 here ended.1 (within ended.0 ended.1)))
      (λ (same : segment_of m ≤ segment_of n).
      let g_is : segment_of n ≡ segment_of m = omega (arith, rise, same) in
      let a = number_is n in
      let b = number_is m in
      let base : base_of (segment_of n) ≡ base_of (segment_of m) = ap base_of g_is in
      let j_is : sequence_of n + (sequence_of m - sequence_of n) ≡ sequence_of m = omega (arith, a.is, b.is, base, le) in
      subst (λ (g : ℕ). GoesOn ends right (segment_of n) (sequence_of n) g (sequence_of m)) g_is
      (subst (λ (j : ℕ). GoesOn ends right (segment_of n) (sequence_of n) (segment_of n) j) j_is
      (goes_within ends right (segment_of n) (sequence_of n) (sequence_of m - sequence_of n))))
      (cases_lt (segment_of n) (segment_of m))

  pub continues : (n m : ℕ) → n ≤ m → leads_to ends n ≡ true → leads_to ends m ≡ true → IsWithinEnd ends n → Continues ends n m
  continues n m le from to within = as_numbers n m (goes_on n m le from to within)

  -- the next number of a segment
  pub next_made : (n : ℕ) → sequence_of n < most_in (segment_of n) → IsMade (n + 1) (segment_of n) (sequence_of n + 1)
  next_made n some = let a = number_is n in record { is = omega (arith, a.is); within = omega (arith, some) }

  pub next_segment : (n : ℕ) → sequence_of n < most_in (segment_of n) → segment_of (n + 1) ≡ segment_of n
  next_segment n some =
      let made = next_made n some in
      subst (λ (m : ℕ). segment_of m ≡ segment_of n) made.is (segment_is (segment_of n) (sequence_of n + 1) made.within)

  pub next_sequence : (n : ℕ) → sequence_of n < most_in (segment_of n) → sequence_of (n + 1) ≡ sequence_of n + 1
  next_sequence n some =
      let a = number_is n in
      let b = number_is (n + 1) in
      let base : base_of (segment_of (n + 1)) ≡ base_of (segment_of n) = ap base_of (next_segment n some) in
      omega (arith, a.is, b.is, base)

  pub next_numbers : (n : ℕ) → sequence_of n < most_in (segment_of n) → numbers_up_to ends (n + 1) ≡ numbers_up_to ends n ++ (n + 1) ∷ []
  next_numbers n some =
      let a = number_is n in
      let first : (base_of (segment_of n) + 1) + sequence_of n ≡ n + 1 = omega (arith, a.is) in
      ap₂ (λ (g k : ℕ). (way_to ends g).passed ++ numbers_of_segment g k) (next_segment n some) (next_sequence n some)
      ∙ within ends right (segment_of n) (sequence_of n) 1
      ∙ ap (λ (m : ℕ). numbers_up_to ends n ++ m ∷ []) first

  pub next_leads : (n : ℕ) → sequence_of n < most_in (segment_of n) → leads_to ends n ≡ true → leads_to ends (n + 1) ≡ true
  next_leads n some from = subst (λ (g : ℕ). ((way_to ends g).at == g) ≡ true) (sym (next_segment n some)) from

  -- a number behind one that is before its segment's end has room before it
  room : (n m : ℕ) → n < m → leads_to ends n ≡ true → leads_to ends m ≡ true → ((e : End) → ends (segment_of n) ≡ Some e → sequence_of n < e.last) → sequence_of n < most_in (segment_of n)
  room n m lt from to before =
      let rise = segments_rise n m (omega (arith, lt)) in
      let g = segment_of n in
      let a = number_is n in
      let b = number_is m in
      ⊎_elim
      (λ (later : g < segment_of m).
      let i = segment_of m - suc g in
      let e : suc g + i ≡ segment_of m = omega (arith, later) in
      let there : (way_to ends (suc g + i)).at ≡ suc g + i = subst (λ (h : ℕ). (way_to ends h).at ≡ h) (sym e) (leads_is m to) in
      let ended = passed_by ends g i (leads_is n from) there in
      let some = before ended.0 ended.1 in
      let most = right.within g ended.0 ended.1 in
      omega (arith, some, most))
      (λ (same : segment_of m ≤ g).
      let is : segment_of m ≡ g = omega (arith, rise, same) in
      let base : base_of (segment_of m) ≡ base_of g = ap base_of is in
      let most : most_in (segment_of m) ≡ most_in g = ap most_in is in
      omega (arith, a.is, b.is, b.within, base, most, lt))
      (cases_lt g (segment_of m))

  module _ (there : ℕ → Bool) where
    pub leads_of : (n : ℕ) → is_reached there ends n ≡ true → leads_to ends n ≡ true
    leads_of n h = first_holds (leads_to ends n) (list_all there (numbers_up_to ends n)) h

    pub all_of : (n : ℕ) → is_reached there ends n ≡ true → list_all there (numbers_up_to ends n) ≡ true
    all_of n h = second_holds (leads_to ends n) (list_all there (numbers_up_to ends n)) h

    -- nothing behind a gap is reached
    pub none_behind : (n m : ℕ) → n < m → is_reached there ends n ≡ true → IsGap there ends n → is_reached there ends m ≡ false
    none_behind n m lt reached gap =
        ⊎_elim
        (λ (yes : is_reached there ends m ≡ true).
        let from = leads_of n reached in
        let to = leads_of m yes in
        let some = room n m lt from to gap.before_end in
        let fits : IsWithinEnd ends (n + 1) = λ e ended.
        let own = subst (λ (g : ℕ). ends g ≡ Some e) (next_segment n some) ended in
        let less = gap.before_end e own in
        let its = next_sequence n some in
        omega (arith, less, its) in
        let on = continues (n + 1) m (omega (arith, lt)) (next_leads n some from) to fits in
        let all : list_all there (numbers_up_to ends (n + 1) ++ on.more) ≡ true = subst (λ (l : List ℕ). list_all there l ≡ true) on.is (all_of m yes) in
        let to_next : list_all there (numbers_up_to ends (n + 1)) ≡ true = first_holds (list_all there (numbers_up_to ends (n + 1))) (list_all there on.more) (sym (list_all-append there (numbers_up_to ends (n + 1)) on.more) ∙ all) in
        let split : list_all there (numbers_up_to ends n ++ (n + 1) ∷ []) ≡ true = subst (λ (l : List ℕ). list_all there l ≡ true) (next_numbers n some) to_next in
        let one = second_holds (list_all there (numbers_up_to ends n)) (there (n + 1) && true) (sym (list_all-append there (numbers_up_to ends n) ((n + 1) ∷ [])) ∙ split) in
        absurd (false≢true (sym gap.missing ∙ first_holds (there (n + 1)) true one)))
        (λ (no : is_reached there ends m ≡ false). no)
        (cases_Bool (is_reached there ends m))

    -- the next number is reached where it is there
    pub next_reached : (n : ℕ) → sequence_of n < most_in (segment_of n) → is_reached there ends n ≡ true → there (n + 1) ≡ true → is_reached there ends (n + 1) ≡ true
    next_reached n some reached is =
        both_hold (leads_to ends (n + 1)) (list_all there (numbers_up_to ends (n + 1))) (next_leads n some (leads_of n reached))
        (ap (list_all there) (next_numbers n some) ∙ list_all-append there (numbers_up_to ends n) ((n + 1) ∷ [])
        ∙ both_hold (list_all there (numbers_up_to ends n)) (there (n + 1) && true) (all_of n reached) (both_hold (there (n + 1)) true is refl))

    -- behind an end come the numbers of the next segment
    pub over_numbers : (n : ℕ) (e : End) → leads_to ends n ≡ true → ends (segment_of n) ≡ Some e →
        (numbers_up_to ends (base_of e.next) ≡ (way_to ends (segment_of n)).passed ++ numbers_of_segment (segment_of n) e.last) × (leads_to ends (base_of e.next) ≡ true)
    over_numbers n e led ended =
        let g = segment_of n in
        let here = leads_is n led in
        let over = passed_over ends g e here ended in
        let later = right.later g e ended in
        let k = e.next - suc g in
        let at_next : suc g + k ≡ e.next = omega (arith, later) in
        let waits : way_to ends e.next ≡ way_to ends (suc g) = ap (way_to ends) (sym at_next) ∙ waiting (suc g) e.next (ap (λ (w : Way). w.at) over) k (omega (arith, at_next)) in
        let its : segment_of (base_of e.next) ≡ e.next = ap segment_of (let x : base_of e.next ≡ base_of e.next + 0 = omega arith in x) ∙ segment_is e.next 0 (omega arith) in
        let a = number_is (base_of e.next) in
        let none : sequence_of (base_of e.next) ≡ 0 = let same : base_of (segment_of (base_of e.next)) ≡ base_of e.next = ap base_of its in omega (arith, a.is, same) in
        let there_at : (way_to ends e.next).at ≡ e.next = ap (λ (w : Way). w.at) (waits ∙ over) in (
          ap₂ (λ (h j : ℕ). (way_to ends h).passed ++ numbers_of_segment h j) its none
              ∙ append-nil (way_to ends e.next).passed
              ∙ ap (λ (w : Way). w.passed) (waits ∙ over),
          subst (λ (h : ℕ). ((way_to ends h).at == h) ≡ true) (sym its) ((Decides-eqb (way_to ends e.next).at e.next).1 there_at),
        )
      where
        -- a way that has come to a later segment waits for it
        waiting : (h to : ℕ) → (way_to ends h).at ≡ to → (k : ℕ) → h + k ≤ to → way_to ends (h + k) ≡ way_to ends h
        waiting h to is zero le = ap (way_to ends) (let x : h + 0 ≡ h = omega arith in x)
        waiting h to is (suc k) le =
            let before = waiting h to is k (omega (arith, le)) in
            let at : (way_to ends (h + k)).at ≡ to = ap (λ (w : Way). w.at) before ∙ is in
            ap (way_to ends) (let x : h + suc k ≡ suc (h + k) = omega arith in x)
            ∙ on_apart (way_to ends (h + k)) (h + k) (ends (h + k)) (λ same. omega (arith, same, at, le))
            ∙ before

    -- where an end is reached, the base of the next segment is
    pub over_reached : (n : ℕ) (e : End) → is_reached there ends n ≡ true → ends (segment_of n) ≡ Some e → e.last ≤ sequence_of n → is_reached there ends (base_of e.next) ≡ true
    over_reached n e reached ended le =
        let g = segment_of n in
        let over = over_numbers n e (leads_of n reached) ended in
        let rest = range_with_len ((base_of g + 1) + e.last) (sequence_of n - e.last) in
        let whole : e.last + (sequence_of n - e.last) ≡ sequence_of n = omega (arith, le) in
        let split : numbers_up_to ends n ≡ ((way_to ends g).passed ++ numbers_of_segment g e.last) ++ rest =
        ap (λ (j : ℕ). (way_to ends g).passed ++ numbers_of_segment g j) (sym whole) ∙ within ends right g e.last (sequence_of n - e.last) in
        both_hold (leads_to ends (base_of e.next)) (list_all there (numbers_up_to ends (base_of e.next))) over.1
        (ap (list_all there) over.0
        ∙ first_holds (list_all there ((way_to ends g).passed ++ numbers_of_segment g e.last)) (list_all there rest)
        (sym (list_all-append there ((way_to ends g).passed ++ numbers_of_segment g e.last) rest) ∙ ap (list_all there) (sym split) ∙ all_of n reached))

    -- with the last number of a segment nothing is passed more
    pub over_same : (n : ℕ) (e : End) → leads_to ends n ≡ true → ends (segment_of n) ≡ Some e → e.last ≡ sequence_of n → numbers_up_to ends (base_of e.next) ≡ numbers_up_to ends n
    over_same n e led ended is = (over_numbers n e led ended).0 ∙ ap (λ (j : ℕ). (way_to ends (segment_of n)).passed ++ numbers_of_segment (segment_of n) j) is
