-- Where the way does not lead, and which numbers are among those up to another.
use Rattle.std.proofs.Common.{◌≡◌, ◌≢◌, ℕ, zero, suc, ◌+◌, ◌-◌, ◌<◌, ◌≤◌, ◌==◌, ◌&&◌, ◌||◌, Bool, true, false, nat_le, List, [], ◌∷◌, ◌++◌, Option, Some, None, refl, ap, sym, subst, ◌∙◌, arith, ⊎_elim}
use Rattle.std.proofs.lemmas.Bool.{cases_lt, cases_Bool, false≢true}
use Rattle.std.proofs.lemmas.Bool.Decides.{Decides-eqb, eqb_tells, nat_tests}
use Rattle.std.proofs.lemmas.List.{append-nil}
use Rattle.std.specs.List.{AllByRecursion, list_any}
use Rattle.work_ids.specs.Segments.{base_of, most_in, segment_of, sequence_of}
use Rattle.sender_segments.specs.Ways.{AreRight, End, StatedEnds, IsWithinEnd, Way, is_up_to_end, leads_to, numbers_up_to, on_by, way_to}
use Rattle.sender_segments.proofs.lemmas.Members.{IsOfLine, all_of_line, stands}
use Rattle.sender_segments.proofs.lemmas.Ranks.{bases_order, number_is, room_before, segment_is}
use Rattle.sender_segments.proofs.lemmas.Reached.{leads_is, next_numbers}
use Rattle.sender_segments.proofs.lemmas.Ways.{on_apart, passed_over, segments_rise, stopped}

-- a number that is one of a list has what all of them have
pub one_of_all : (P : ℕ → Type 0) (ns : List ℕ) (n : ℕ) → AllByRecursion P ns → list_any (λ m. m == n) ns ≡ true → P n
one_of_all P [] n all is = absurd (false≢true is)
one_of_all P (m ∷ ns) n all is =
    ⊎_elim
    (λ (here : ((m == n) ≡ true) × (m ≡ n)). subst P here.1 all.0)
    (λ (apart : ((m == n) ≡ false) × (m ≢ n)). one_of_all P ns n all.1 (sym (ap (λ (b : Bool). b || list_any (λ k. k == n) ns) apart.0) ∙ is))
    (eqb_tells m n)

-- the middle of a list is one of it
pub one_in_middle : (before more : List ℕ) (n : ℕ) → list_any (λ m. m == n) ((before ++ n ∷ []) ++ more) ≡ true
one_in_middle [] more n = ap (λ (b : Bool). b || list_any (λ m. m == n) more) ((Decides-eqb n n).1 refl)
one_in_middle (x ∷ before) more n = ap (λ (b : Bool). (x == n) || b) (one_in_middle before more n) ∙ or_true (x == n)
  where
    or_true : (b : Bool) → (b || true) ≡ true
    or_true true = refl
    or_true false = refl

-- a base is the first rank of its segment
pub base_segment : (g : ℕ) → segment_of (base_of g) ≡ g
base_segment g = ap segment_of (let e : base_of g ≡ base_of g + 0 = omega arith in e) ∙ segment_is g 0 (omega arith)

-- a base above another is that of a later segment
pub bases_back : (g h : ℕ) → base_of g < base_of h → g < h
bases_back g h below =
    ⊎_elim
    (λ (later : g < h). later)
    (λ (back : h ≤ g). absurd (⊎_elim (λ (before : h < g). over before) (λ (same : g ≤ h). let e : g ≡ h = omega (arith, back, same) in let b : base_of g ≡ base_of h = ap base_of e in omega (arith, b, below)) (cases_lt h g)))
    (cases_lt g h)
  where
    over : h < g → ⊥
    over before =
        let k = g - suc h in
        let e : suc h + k ≡ g = omega (arith, before) in
        let far = subst (λ (i : ℕ). base_of h + most_in h < base_of i) e (bases_order h k) in
        omega (arith, far, below)

-- a number without its place in its segment is the base of that
pub base_is : (n : ℕ) → n - sequence_of n ≡ base_of (segment_of n)
base_is n = let made = number_is n in omega (arith, made.is)

module _ (ends : StatedEnds) (right : AreRight ends) where
  -- a way that has come to a later segment waits for it
  waits : (h to : ℕ) → (way_to ends h).at ≡ to → (k : ℕ) → h + k ≤ to → way_to ends (h + k) ≡ way_to ends h
  waits h to is zero le = ap (way_to ends) (let x : h + 0 ≡ h = omega arith in x)
  waits h to is (suc k) le =
      let before = waits h to is k (omega (arith, le)) in
      let at : (way_to ends (h + k)).at ≡ to = ap (λ (w : Way). w.at) before ∙ is in
      ap (way_to ends) (let x : h + suc k ≡ suc (h + k) = omega arith in x)
      ∙ on_apart (way_to ends (h + k)) (h + k) (ends (h + k)) (λ same. omega (arith, same, at, le))
      ∙ before

  not_led : (n at : ℕ) → (way_to ends (segment_of n)).at ≡ at → (at ≡ segment_of n → ⊥) → leads_to ends n ≡ false
  not_led n at is apart =
      ⊎_elim
      (λ (yes : leads_to ends n ≡ true). absurd (apart (sym is ∙ leads_is ends right n yes)))
      (λ (no : leads_to ends n ≡ false). no)
      (cases_Bool (leads_to ends n))

  -- no end leads on from a segment that has none
  pub stops : (a n : ℕ) → leads_to ends a ≡ true → ends (segment_of a) ≡ None → segment_of a < segment_of n → leads_to ends n ≡ false
  stops a n led bare later =
      let g = segment_of a in
      let here = leads_is ends right a led in
      let k = segment_of n - suc g in
      let at_n : suc g + k ≡ segment_of n = omega (arith, later) in
      let next : way_to ends (suc g) ≡ way_to ends g = ap (on_by (way_to ends g) g) bare in
      let at : (way_to ends (suc g)).at ≡ g = ap (λ (w : Way). w.at) next ∙ here in
      let stays = stopped ends (suc g) k (omega (arith, at)) in
      not_led n g (ap (λ (h : ℕ). (way_to ends h).at) (sym at_n) ∙ ap (λ (w : Way). w.at) stays ∙ at) (λ same. omega (arith, same, later))

  -- an end that leads past a segment leads to none of its numbers
  pub skips : (a n : ℕ) (e : End) → leads_to ends a ≡ true → ends (segment_of a) ≡ Some e → segment_of a < segment_of n → segment_of n < e.next → leads_to ends n ≡ false
  skips a n e led ended later before =
      let g = segment_of a in
      let here = leads_is ends right a led in
      let over : (way_to ends (suc g)).at ≡ e.next = ap (λ (w : Way). w.at) (passed_over ends g e here ended) in
      let k = segment_of n - suc g in
      let at_n : suc g + k ≡ segment_of n = omega (arith, later) in
      let waiting = waits (suc g) e.next over k (omega (arith, at_n, before)) in
      not_led n e.next (ap (λ (h : ℕ). (way_to ends h).at) (sym at_n) ∙ ap (λ (w : Way). w.at) waiting ∙ over) (λ same. omega (arith, same, before))

  -- numbers of one segment are led to together
  pub led_together : (a n : ℕ) → segment_of a ≡ segment_of n → leads_to ends a ≡ true → leads_to ends n ≡ true
  led_together a n same led = subst (λ (g : ℕ). ((way_to ends g).at == g) ≡ true) same led

  -- an end that is reached leads to the first rank of the next segment
  pub led_over : (a : ℕ) (e : End) → leads_to ends a ≡ true → ends (segment_of a) ≡ Some e → leads_to ends (base_of e.next) ≡ true
  led_over a e led ended =
      let g = segment_of a in
      let here = leads_is ends right a led in
      let later = right.later g e ended in
      let over : (way_to ends (suc g)).at ≡ e.next = ap (λ (w : Way). w.at) (passed_over ends g e here ended) in
      let k = e.next - suc g in
      let at_next : suc g + k ≡ e.next = omega (arith, later) in
      let waiting = waits (suc g) e.next over k (omega (arith, at_next)) in
      let at : (way_to ends e.next).at ≡ e.next = ap (λ (h : ℕ). (way_to ends h).at) (sym at_next) ∙ ap (λ (w : Way). w.at) waiting ∙ over in
      subst (λ (h : ℕ). ((way_to ends h).at == h) ≡ true) (sym (base_segment e.next)) ((Decides-eqb (way_to ends e.next).at e.next).1 at)

  -- a number of a segment is one of those up to it
  pub has_itself : (n : ℕ) → 1 ≤ sequence_of n → list_any (λ m. m == n) (numbers_up_to ends n) ≡ true
  has_itself n some =
      let made = number_is n in
      let k = n - 1 in
      let next : k + 1 ≡ n = omega (arith, made.is, some) in
      let room = room_before k (subst (λ (j : ℕ). 1 ≤ sequence_of j) (sym next) some) in
      let last : numbers_up_to ends n ≡ (numbers_up_to ends k ++ n ∷ []) ++ [] =
      subst (λ (j : ℕ). numbers_up_to ends j ≡ numbers_up_to ends k ++ j ∷ []) next (next_numbers ends right k room) ∙ sym (append-nil (numbers_up_to ends k ++ n ∷ [])) in
      ap (λ (ns : List ℕ). list_any (λ m. m == n) ns) last ∙ one_in_middle (numbers_up_to ends k) [] n

  -- a number is one of those up to a front exactly where it is one of its segment, is led to, is at most the front, and is within the end of its segment
  pub up_to_front : (f n : ℕ) → leads_to ends f ≡ true → IsWithinEnd ends f →
      list_any (λ m. m == n) (numbers_up_to ends f) ≡ (nat_le 1 (sequence_of n) && (nat_le n f && (leads_to ends n && is_up_to_end (ends (segment_of n)) (sequence_of n))))
  up_to_front f n led within = both (list_any (λ m. m == n) (numbers_up_to ends f)) (nat_le 1 (sequence_of n) && (nat_le n f && (leads_to ends n && is_up_to_end (ends (segment_of n)) (sequence_of n)))) there back
    where
      both : (a b : Bool) → (a ≡ true → b ≡ true) → (b ≡ true → a ≡ true) → a ≡ b
      both true b to from = sym (to refl)
      both false true to from = from refl
      both false false to from = refl

      all_four : (a b c d : Bool) → a ≡ true → b ≡ true → c ≡ true → d ≡ true → (a && (b && (c && d))) ≡ true
      all_four a b c d one two three four = cc

      of_four : (a b c d : Bool) → (a && (b && (c && d))) ≡ true → (a ≡ true) × (b ≡ true) × (c ≡ true) × (d ≡ true)
      of_four true true true true h = (refl, refl, refl, refl)
      of_four true true true false h = absurd (false≢true h)
      of_four true true false d h = absurd (false≢true h)
      of_four true false c d h = absurd (false≢true h)
      of_four false b c d h = absurd (false≢true h)

      le_holds : (a b : ℕ) → a ≤ b → nat_le a b ≡ true
      le_holds a b h = grind (arith, nat_tests)

      le_says : (a b : ℕ) → nat_le a b ≡ true → a ≤ b
      le_says a b h = grind (arith, nat_tests)

      fits : (o : Option End) (k : ℕ) → ((e : End) → o ≡ Some e → k ≤ e.last) → is_up_to_end o k ≡ true
      fits None k h = refl
      fits (Some e) k h = le_holds k e.last (h e refl)

      fits_so : (o : Option End) (k : ℕ) → is_up_to_end o k ≡ true → (e : End) → o ≡ Some e → k ≤ e.last
      fits_so None k h e is = absurd (none is)
        where
          none : ◌≡◌ {A = Option End} None (Some e) → ⊥
          none is = cc
      fits_so (Some x) k h e is = let one : x ≡ e = cc in let last : x.last ≡ e.last = ap (λ (y : End). y.last) one in let le = le_says k x.last h in omega (arith, le, last)

      there : list_any (λ m. m == n) (numbers_up_to ends f) ≡ true → (nat_le 1 (sequence_of n) && (nat_le n f && (leads_to ends n && is_up_to_end (ends (segment_of n)) (sequence_of n)))) ≡ true
      there is =
          let its = one_of_all (IsOfLine ends right f) (numbers_up_to ends f) n (all_of_line ends right f led) is in
          let le = its.up_to in
          all_four (nat_le 1 (sequence_of n)) (nat_le n f) (leads_to ends n) (is_up_to_end (ends (segment_of n)) (sequence_of n))
          (le_holds 1 (sequence_of n) its.is.some) (le_holds n f le) its.is.leads
          (fits (ends (segment_of n)) (sequence_of n) (⊎_elim its.within own (cases_lt (segment_of n) (segment_of f))))
        where
          own : segment_of f ≤ segment_of n → IsWithinEnd ends n
          own behind = λ e ended.
              let its = one_of_all (IsOfLine ends right f) (numbers_up_to ends f) n (all_of_line ends right f led) is in
              let le = its.up_to in
              let rise = segments_rise n f le in
              let same : segment_of n ≡ segment_of f = omega (arith, rise, behind) in
              let a = number_is n in
              let b = number_is f in
              let base : base_of (segment_of n) ≡ base_of (segment_of f) = ap base_of same in
              let last = within e (sym (ap ends same) ∙ ended) in
              omega (arith, a.is, b.is, base, le, last)

      back : (nat_le 1 (sequence_of n) && (nat_le n f && (leads_to ends n && is_up_to_end (ends (segment_of n)) (sequence_of n)))) ≡ true → list_any (λ m. m == n) (numbers_up_to ends f) ≡ true
      back h =
          let is = of_four (nat_le 1 (sequence_of n)) (nat_le n f) (leads_to ends n) (is_up_to_end (ends (segment_of n)) (sequence_of n)) h in
          let stand = stands ends right f n led (record { leads = is.2; some = le_says 1 (sequence_of n) is.0 }) (le_says n f is.1) (fits_so (ends (segment_of n)) (sequence_of n) is.3) in
          ap (λ (ns : List ℕ). list_any (λ m. m == n) ns) stand.2 ∙ one_in_middle stand.0 stand.1 n
