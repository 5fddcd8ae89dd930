-- Which numbers are in a line, by the ends alone.
use Rattle.std.proofs.Common.{◌≡◌, ◌≢◌, ℕ, zero, suc, ◌+◌, ◌-◌, ◌<◌, ◌≤◌, ◌==◌, true, false, List, [], ◌∷◌, ◌++◌, Option, Some, None, refl, ap, sym, subst, ◌∙◌, arith, ⊎_elim}
use Rattle.std.proofs.lemmas.Bool.Decides.{Decides-eqb, eqb_tells}
use Rattle.std.specs.List.{AllByRecursion, range_with_len}
use Rattle.work_ids.specs.Segments.{base_of, most_in, segment_of, sequence_of}
use Rattle.sender_segments.specs.Ways.{AreRight, End, StatedEnds, IsWithinEnd, Way, leads_to, numbers_of_segment, numbers_up_to, on_by, way_to}
use Rattle.sender_segments.proofs.lemmas.Ranks.{bases_order, number_is, segment_is}
use Rattle.sender_segments.proofs.lemmas.Reached.{continues, leads_is}
use Rattle.sender_segments.proofs.lemmas.Ways.{on_apart, passed_over, segments_rise}

all_join : {X : Type 0} (P : X → Type 0) (xs ys : List X) → AllByRecursion P xs → AllByRecursion P ys → AllByRecursion P (xs ++ ys)
all_join P [] ys x y = y
all_join P (z ∷ xs) ys x y = (x.0, all_join P xs ys x.1 y)

all_turn : {X : Type 0} (P Q : X → Type 0) → ((x : X) → P x → Q x) → (xs : List X) → AllByRecursion P xs → AllByRecursion Q xs
all_turn P Q turn [] all = tt
all_turn P Q turn (x ∷ xs) all = (turn x all.0, all_turn P Q turn xs all.1)

module _ (ends : StatedEnds) (right : AreRight ends) where
  -- a number of a segment that the ends lead to
  pub record IsIn (n : ℕ) : Type 0 where
    pub leads : leads_to ends n ≡ true
    pub some : 1 ≤ sequence_of n

  -- one of a segment before another, within its end
  pub record IsPassed (h : ℕ) (n : ℕ) : Type 0 where
    pub is : IsIn n
    pub before : segment_of n < h
    pub within : IsWithinEnd ends n

  its_own : (g : ℕ) → (way_to ends g).at ≡ g → (k : ℕ) → 1 ≤ k → k ≤ most_in g → (IsIn (base_of g + k)) × (segment_of (base_of g + k) ≡ g) × (sequence_of (base_of g + k) ≡ k)
  its_own g at k some most =
      let its = segment_is g k most in
      let a = number_is (base_of g + k) in
      let base : base_of (segment_of (base_of g + k)) ≡ base_of g = ap base_of its in
      let seq : sequence_of (base_of g + k) ≡ k = omega (arith, a.is, base) in
      (record { leads = subst (λ (h : ℕ). ((way_to ends h).at == h) ≡ true) (sym its) ((Decides-eqb (way_to ends g).at g).1 at); some = omega (arith, seq, some) }, its, seq)

  -- numbers of a segment from one on
  all_own : (g : ℕ) → (way_to ends g).at ≡ g → (P : ℕ → Type 0) → (from len : ℕ) → 1 ≤ from → from + len ≤ most_in g + 1 →
      ((k : ℕ) → from ≤ k → k < from + len → IsIn (base_of g + k) → segment_of (base_of g + k) ≡ g → sequence_of (base_of g + k) ≡ k → P (base_of g + k)) →
      AllByRecursion P (range_with_len (base_of g + from) len)
  all_own g at P from zero some most each = tt
  all_own g at P from (suc len) some most each =
      let own = its_own g at from some (omega (arith, most)) in
      let e : base_of g + (from + 1) ≡ (base_of g + from) + 1 = omega arith in (
        each from (omega arith) (omega arith) own.0 own.1 own.2,
        subst (λ (m : ℕ). AllByRecursion P (range_with_len m len)) e
            (all_own g at P (from + 1) len (omega (arith, some)) (omega (arith, most)) (λ k low high. each k (omega (arith, low)) (omega (arith, high)))),
      )

  -- what is passed is led to, and within its end
  pub all_passed : (h : ℕ) → AllByRecursion (IsPassed h) (way_to ends h).passed
  all_passed zero = tt
  all_passed (suc h) = by_end (ends h) refl (all_turn (IsPassed h) (IsPassed (suc h)) (λ n p. record { is = p.is; before = let x = p.before in omega (arith, x); within = p.within }) (way_to ends h).passed (all_passed h))
    where
      by_end : (o : Option End) → ends h ≡ o → AllByRecursion (IsPassed (suc h)) (way_to ends h).passed → AllByRecursion (IsPassed (suc h)) (way_to ends (suc h)).passed
      by_end None bare before = subst (λ (w : Way). AllByRecursion (IsPassed (suc h)) w.passed) (sym (ap (on_by (way_to ends h) h) bare)) before
      by_end (Some e) ended before =
          ⊎_elim
          (λ (here : (((way_to ends h).at == h) ≡ true) × ((way_to ends h).at ≡ h)).
          let most = right.within h e ended in
          let own = all_own h here.1 (IsPassed (suc h)) 1 e.last (omega arith) (omega (arith, most)) (λ k low high is seg seq. record {
            is = is;
            before = omega (arith, seg);
            within = λ f stated.
                let same : ◌≡◌ {A = Option End} (Some f) (Some e) = sym stated ∙ ap ends seg ∙ ended in
                let one : f ≡ e = cc in
                let last : f.last ≡ e.last = ap (λ (x : End). x.last) one in
                omega (arith, seq, high, last);
          }) in
          subst (λ (w : Way). AllByRecursion (IsPassed (suc h)) w.passed) (sym (passed_over ends h e here.1 ended)) (all_join (IsPassed (suc h)) (way_to ends h).passed (numbers_of_segment h e.last) before own))
          (λ (apart : (((way_to ends h).at == h) ≡ false) × ((way_to ends h).at ≢ h)).
          subst (λ (w : Way). AllByRecursion (IsPassed (suc h)) w.passed) (sym (on_apart (way_to ends h) h (ends h) apart.1)) before)
          (eqb_tells (way_to ends h).at h)

  -- a number of the line up to another
  pub record IsOfLine (f : ℕ) (n : ℕ) : Type 0 where
    pub is : IsIn n
    pub up_to : n ≤ f
    pub within : segment_of n < segment_of f → IsWithinEnd ends n

  -- the numbers up to one are led to, at most that one, and within the ends of their segments where these are passed
  pub all_of_line : (f : ℕ) → leads_to ends f ≡ true → AllByRecursion (IsOfLine f) (numbers_up_to ends f)
  all_of_line f to =
      let g = segment_of f in
      let made = number_is f in
      let at = leads_is ends right f to in
      let before = all_turn (IsPassed g) (IsOfLine f)
      (λ n p. record {
        is = p.is;
        up_to =
            let b = number_is n in
            let x = p.before in
            let far = bases_order (segment_of n) (g - suc (segment_of n)) in
            let e : suc (segment_of n) + (g - suc (segment_of n)) ≡ g = omega (arith, x) in
            let later : base_of (segment_of n) + most_in (segment_of n) < base_of g = subst (λ (h : ℕ). base_of (segment_of n) + most_in (segment_of n) < base_of h) e far in
            omega (arith, b.is, b.within, later, made.is);
        within = λ _. p.within;
      }) (way_to ends g).passed (all_passed g) in
      let own = all_own g at (IsOfLine f) 1 (sequence_of f) (omega arith) (omega (arith, made.within)) (λ k low high is seg seq. record {
        is = is;
        up_to = omega (arith, made.is, high);
        within = λ less. absurd (omega (arith, less, seg));
      }) in
      all_join (IsOfLine f) (way_to ends g).passed (numbers_of_segment g (sequence_of f)) before own

  -- the other way round: such a number stands in the line
  pub stands : (f n : ℕ) → leads_to ends f ≡ true → IsIn n → n ≤ f → IsWithinEnd ends n → (before more : List ℕ) × (numbers_up_to ends f ≡ (before ++ n ∷ []) ++ more)
  stands f n to is le within =
      let on = continues ends right n f le is.leads to within in
      let g = segment_of n in
      let k = sequence_of n - 1 in
      let some = is.some in
      let made = number_is n in
      let e : k + 1 ≡ sequence_of n = omega (arith, some) in
      let last : (base_of g + 1) + k ≡ n = omega (arith, made.is, e) in
      let own : numbers_up_to ends n ≡ ((way_to ends g).passed ++ numbers_of_segment g k) ++ n ∷ [] =
      ap (λ (j : ℕ). (way_to ends g).passed ++ numbers_of_segment g j) (sym e) ∙ within_more g k 1 ∙ ap (λ (m : ℕ). ((way_to ends g).passed ++ numbers_of_segment g k) ++ m ∷ []) last in
      ((way_to ends g).passed ++ numbers_of_segment g k, on.more, on.is ∙ ap (λ (l : List ℕ). l ++ on.more) own)
    where
      within_more : (g k d : ℕ) → (way_to ends g).passed ++ numbers_of_segment g (k + d) ≡ ((way_to ends g).passed ++ numbers_of_segment g k) ++ range_with_len ((base_of g + 1) + k) d
      within_more g k d = Rattle.sender_segments.proofs.lemmas.Ways.within ends right g k d
