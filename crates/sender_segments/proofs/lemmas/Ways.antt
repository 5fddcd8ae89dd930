-- The way through segments, and the numbers up to one.
use Rattle.std.proofs.Common.{◌≡◌, ◌≢◌, ℕ, zero, suc, ◌+◌, ◌-◌, ◌<◌, ◌≤◌, ◌==◌, true, false, cond, List, [], ◌++◌, Option, Some, None, refl, ap, sym, subst, ◌∙◌, append_assoc, arith, ⊎_elim}
use Rattle.std.proofs.lemmas.Bool.{cases_lt}
use Rattle.std.proofs.lemmas.Bool.Decides.{Decides-eqb, eqb_tells}
use Rattle.std.proofs.lemmas.List.{append-nil}
use Rattle.std.specs.List.{range_with_len}
use Rattle.sender_segments.specs.Ascends.{Ascends}
use Rattle.work_ids.specs.Segments.{base_of, most_in, segment_of, sequence_of}
use Rattle.sender_segments.specs.Ways.{AreRight, End, StatedEnds, Way, numbers_of_segment, numbers_up_to, on_by, way_to}
use Rattle.sender_segments.proofs.lemmas.Ranks.{bases_order, bases_rise, number_is}
use Rattle.sender_segments.proofs.lemmas.Rising.{range_rises, range_split, rises_on, rises_to}

-- a way that has come to another segment stays
pub on_apart : (w : Way) (g : ℕ) (e : Option End) → w.at ≢ g → on_by w g e ≡ w
on_apart w g None h = refl
on_apart w g (Some e) h =
    ⊎_elim
    (λ (same : (w.at == g ≡ true) × (w.at ≡ g)). absurd (h same.1))
    (λ (apart : (w.at == g ≡ false) × (w.at ≢ g)). ap (λ b. cond b (record { at = e.next; passed = w.passed ++ numbers_of_segment g e.last }) w) apart.0)
    (eqb_tells w.at g)

-- one that has come to this segment goes on
pub on_here : (w : Way) (g : ℕ) (e : End) → w.at ≡ g → on_by w g (Some e) ≡ record { at = e.next; passed = w.passed ++ numbers_of_segment g e.last }
on_here w g e is = ap (λ b. cond b (record { at = e.next; passed = w.passed ++ numbers_of_segment g e.last }) w) ((Decides-eqb w.at g).1 is)

module _ (ends : StatedEnds) where
  -- a way that has stopped before a segment has stopped for good
  pub stopped : (g k : ℕ) → (way_to ends g).at < g → way_to ends (g + k) ≡ way_to ends g
  stopped g zero h = ap (way_to ends) (let e : g + 0 ≡ g = omega arith in e)
  stopped g (suc k) h =
      let before = stopped g k h in
      let there : (way_to ends (g + k)).at ≡ (way_to ends g).at = ap (λ (w : Way). w.at) before in
      ap (way_to ends) (let e : g + suc k ≡ suc (g + k) = omega arith in e)
      ∙ on_apart (way_to ends (g + k)) (g + k) (ends (g + k)) (λ same. omega (arith, same, there, h))
      ∙ before

  -- a segment that is passed has an end
  pub passed_by : (g k : ℕ) → (way_to ends g).at ≡ g → (way_to ends (suc g + k)).at ≡ suc g + k → (e : End) × (ends g ≡ Some e)
  passed_by g k is comes = by_end (ends g) refl
    where
      by_end : (o : Option End) → ends g ≡ o → (e : End) × (ends g ≡ Some e)
      by_end (Some e) ended = (e, ended)
      by_end None bare =
          let same : way_to ends (suc g) ≡ way_to ends g = ap (on_by (way_to ends g) g) bare in
          let there : (way_to ends (suc g)).at ≡ g = ap (λ (w : Way). w.at) same ∙ is in
          let later : (way_to ends (suc g + k)).at ≡ g = ap (λ (w : Way). w.at) (stopped (suc g) k (omega (arith, there))) ∙ there in
          absurd (omega (arith, later, comes))

  pub passed_over : (g : ℕ) (e : End) → (way_to ends g).at ≡ g → ends g ≡ Some e → way_to ends (suc g) ≡ record { at = e.next; passed = (way_to ends g).passed ++ numbers_of_segment g e.last }
  passed_over g e is ended = ap (on_by (way_to ends g) g) ended ∙ on_here (way_to ends g) g e is

  module _ (right : AreRight ends) where
    -- what is passed more, rising
    pub record GoesBy (g k : ℕ) : Type 0 where
      pub more : List ℕ
      pub is : (way_to ends (g + k)).passed ≡ (way_to ends g).passed ++ more
      pub rises : Ascends (base_of g) more (base_of (g + k))

    one_more : (g : ℕ) (o : Option End) → ends g ≡ o → (more : List ℕ) × ((way_to ends (suc g)).passed ≡ (way_to ends g).passed ++ more) × Ascends (base_of g) more (base_of (suc g))
    one_more g None bare = (
      [],
      ap (λ (w : Way). w.passed) (ap (on_by (way_to ends g) g) bare) ∙ sym (append-nil (way_to ends g).passed),
      let up = bases_rise g in let le : base_of g ≤ base_of (suc g) = omega (arith, up) in le,
    )
    one_more g (Some e) ended =
        ⊎_elim
        (λ (same : (((way_to ends g).at == g) ≡ true) × ((way_to ends g).at ≡ g)). (
          numbers_of_segment g e.last,
          ap (λ (w : Way). w.passed) (passed_over g e same.1 ended),
          let up = bases_rise g in let fits = right.within g e ended in rises_to (base_of g) (base_of g + e.last) (base_of (suc g)) (numbers_of_segment g e.last) (range_rises (base_of g) e.last) (omega (arith, up, fits)),
        ))
        (λ (apart : (((way_to ends g).at == g) ≡ false) × ((way_to ends g).at ≢ g)). (
          [],
          ap (λ (w : Way). w.passed) (on_apart (way_to ends g) g (ends g) apart.1) ∙ sym (append-nil (way_to ends g).passed),
          let up = bases_rise g in let le : base_of g ≤ base_of (suc g) = omega (arith, up) in le,
        ))
        (eqb_tells (way_to ends g).at g)

    pub goes_by : (g k : ℕ) → GoesBy g k
    goes_by g zero =
        let e : g + 0 ≡ g = omega arith in
        record {
          more = [];
          is = ap (λ (h : ℕ). (way_to ends h).passed) e ∙ sym (append-nil (way_to ends g).passed);
          rises = let le : base_of g ≤ base_of (g + 0) = subst (λ (h : ℕ). base_of g ≤ base_of h) (sym e) (omega arith) in le;
        }
    goes_by g (suc k) =
        let e : g + suc k ≡ suc (g + k) = omega arith in
        let before = goes_by g k in
        let next = one_more (g + k) (ends (g + k)) refl in
        record {
          more = before.more ++ next.0;
          is = ap (λ (h : ℕ). (way_to ends h).passed) e ∙ next.1 ∙ ap (λ (l : List ℕ). l ++ next.0) before.is ∙ append_assoc (way_to ends g).passed before.more next.0;
          rises = subst (λ (h : ℕ). Ascends (base_of g) (before.more ++ next.0) (base_of h)) (sym e) (rises_on (base_of g) (base_of (g + k)) (base_of (suc (g + k))) before.more next.0 before.rises next.2);
        }

    -- what is passed before a segment rises up to it
    pub passed_rise : (g : ℕ) → Ascends 0 (way_to ends g).passed (base_of g)
    passed_rise g =
        let e : 0 + g ≡ g = omega arith in
        let all = goes_by 0 g in
        subst (λ (h : ℕ). Ascends 0 (way_to ends h).passed (base_of h)) e
        (subst (λ (l : List ℕ). Ascends 0 l (base_of (0 + g))) (sym all.is) all.rises)

    -- the numbers up to one rise up to it
    pub numbers_rise : (n : ℕ) → Ascends 0 (numbers_up_to ends n) n
    numbers_rise n =
        let made = number_is n in
        subst (λ (m : ℕ). Ascends 0 (numbers_up_to ends n) m) made.is
        (rises_on 0 (base_of (segment_of n)) (base_of (segment_of n) + sequence_of n) (way_to ends (segment_of n)).passed (numbers_of_segment (segment_of n) (sequence_of n)) (passed_rise (segment_of n)) (range_rises (base_of (segment_of n)) (sequence_of n)))

-- segments rise as numbers do
pub segments_rise : (n m : ℕ) → n ≤ m → segment_of n ≤ segment_of m
segments_rise n m le =
    ⊎_elim
    (λ (back : segment_of m < segment_of n).
    let a = number_is n in
    let b = number_is m in
    let far = bases_order (segment_of m) (segment_of n - suc (segment_of m)) in
    let e : suc (segment_of m) + (segment_of n - suc (segment_of m)) ≡ segment_of n = omega (arith, back) in
    let later : base_of (segment_of m) + most_in (segment_of m) < base_of (segment_of n) = subst (λ (g : ℕ). base_of (segment_of m) + most_in (segment_of m) < base_of g) e far in
    absurd (omega (arith, a.is, b.is, b.within, later, le)))
    (λ (on : segment_of n ≤ segment_of m). on)
    (cases_lt (segment_of m) (segment_of n))

module _ (ends : StatedEnds) (right : AreRight ends) where
  -- the numbers up to a place of a segment
  abbrev pub up_to : ℕ → ℕ → List ℕ
  up_to g k = (way_to ends g).passed ++ numbers_of_segment g k

  -- the numbers up to one place go on to another, and the next one comes first
  pub record GoesOn (g k h j : ℕ) : Type 0 where
    pub more : List ℕ
    pub is : up_to h j ≡ up_to g k ++ more
    pub rises : Ascends (base_of g + k) more (base_of h + j)

  -- within a segment
  pub within : (g k d : ℕ) → up_to g (k + d) ≡ up_to g k ++ range_with_len ((base_of g + 1) + k) d
  within g k d =
      ap (λ (l : List ℕ). (way_to ends g).passed ++ l) (range_split (base_of g + 1) k d)
      ∙ sym (append_assoc (way_to ends g).passed (numbers_of_segment g k) (range_with_len ((base_of g + 1) + k) d))

  pub goes_within : (g k d : ℕ) → GoesOn g k g (k + d)
  goes_within g k d =
      let e : (base_of g + k) + 1 ≡ (base_of g + 1) + k = omega arith in
      let f : (base_of g + k) + d ≡ base_of g + (k + d) = omega arith in
      record {
        more = range_with_len ((base_of g + 1) + k) d;
        is = within g k d;
        rises = subst (λ (m : ℕ). Ascends (base_of g + k) (range_with_len ((base_of g + 1) + k) d) m) f
            (subst (λ (m : ℕ). Ascends (base_of g + k) (range_with_len m d) ((base_of g + k) + d)) e (range_rises (base_of g + k) d));
      }

  -- into a later segment
  pub goes_over : (g k i j : ℕ) (e : End) → (way_to ends g).at ≡ g → ends g ≡ Some e → k ≤ e.last → GoesOn g k (suc g + i) j
  goes_over g k i j e is ended fits =
      let rest = range_with_len ((base_of g + 1) + k) (e.last - k) in
      let own = goes_within g k (e.last - k) in
      let whole : k + (e.last - k) ≡ e.last = omega (arith, fits) in
      let later = goes_by ends right (suc g) i in
      let h = suc g + i in
      let most = right.within g e ended in
      let up = bases_rise g in
      let over : (way_to ends (suc g)).passed ≡ up_to g k ++ own.more =
      ap (λ (w : Way). w.passed) (passed_over ends g e is ended) ∙ ap (up_to g) (sym whole) ∙ own.is in
      record {
        more = (own.more ++ later.more) ++ numbers_of_segment h j;
        is =
            ap (λ (l : List ℕ). l ++ numbers_of_segment h j) (later.is ∙ ap (λ (l : List ℕ). l ++ later.more) over ∙ append_assoc (up_to g k) own.more later.more)
            ∙ append_assoc (up_to g k) (own.more ++ later.more) (numbers_of_segment h j);
        rises =
            rises_on (base_of g + k) (base_of h) (base_of h + j) (own.more ++ later.more) (numbers_of_segment h j)
            (rises_on (base_of g + k) (base_of (suc g)) (base_of h) own.more later.more
            (rises_to (base_of g + k) (base_of g + (k + (e.last - k))) (base_of (suc g)) own.more own.rises (omega (arith, whole, most, up)))
            later.rises)
            (range_rises (base_of h) j);
      }
