-- What stays when a number comes, or an end is stated; and the front.
use Rattle.std.proofs.Common.{◌≡◌, ◌≢◌, ℕ, zero, suc, ◌<◌, ◌≤◌, ◌==◌, ◌&&◌, Bool, true, false, cond, List, [], ◌∷◌, ◌++◌, Option, Some, None, refl, ap, ap₂, sym, subst, ◌∙◌, arith, ⊎_elim}
use Rattle.std.proofs.lemmas.Bool.{cases_lt, false≢true}
use Rattle.std.proofs.lemmas.Bool.Decides.{Decides-eqb, eqb_tells}
use Rattle.std.specs.List.{list_all}
use Rattle.work_ids.specs.Segments.{segment_of, sequence_of}
use Rattle.sender_segments.specs.Ways.{AreRight, End, StatedEnds, IsGap, Way, greatest_passing, is_reached, leads_to, numbers_of_segment, numbers_up_to, on_by, way_to}
use Rattle.sender_segments.proofs.lemmas.Reached.{none_behind}
use Rattle.sender_segments.proofs.lemmas.Ways.{on_apart}

both_hold : (a b : Bool) → a ≡ true → b ≡ true → (a && b) ≡ true
both_hold true b h g = g
both_hold false b h g = absurd (false≢true h)

all_stay : (there then : ℕ → Bool) → ((n : ℕ) → there n ≡ true → then n ≡ true) → (ns : List ℕ) → list_all there ns ≡ true → list_all then ns ≡ true
all_stay there then keeps [] h = refl
all_stay there then keeps (n ∷ ns) h = by_case (there n) refl h (all_stay there then keeps ns)
  where
    by_case : (b : Bool) → there n ≡ b → (b && list_all there ns) ≡ true → (list_all there ns ≡ true → list_all then ns ≡ true) → list_all then (n ∷ ns) ≡ true
    by_case true is h later = both_hold (then n) (list_all then ns) (keeps n is) (later h)
    by_case false is h later = absurd (false≢true h)

module _ (old new : StatedEnds) (keeps : (g : ℕ) (e : End) → old g ≡ Some e → new g ≡ Some e) where
  -- a way that has not stopped is the same with more ends
  pub same_way : (h : ℕ) → h ≤ (way_to old h).at → way_to new h ≡ way_to old h
  same_way zero le = refl
  same_way (suc h) le = ⊎_elim (here (same_way h)) (apart (same_way h)) (eqb_tells (way_to old h).at h)
    where
      Before : Type 0
      Before = h ≤ (way_to old h).at → way_to new h ≡ way_to old h

      by_end : Before → (o : Option End) → old h ≡ o → (way_to old h).at ≡ h → way_to new (suc h) ≡ way_to old (suc h)
      by_end earlier None bare is =
          let stays : way_to old (suc h) ≡ way_to old h = ap (on_by (way_to old h) h) bare in
          let at : (way_to old (suc h)).at ≡ h = ap (λ (w : Way). w.at) stays ∙ is in
          absurd (omega (arith, le, at))
      by_end earlier (Some e) ended is =
          ap₂ (λ (w : Way) (o : Option End). on_by w h o) (earlier (omega (arith, is))) (keeps h e ended)
          ∙ sym (ap (on_by (way_to old h) h) ended)

      here : Before → (((way_to old h).at == h) ≡ true) × ((way_to old h).at ≡ h) → way_to new (suc h) ≡ way_to old (suc h)
      here earlier is = by_end earlier (old h) refl is.1

      apart : Before → (((way_to old h).at == h) ≡ false) × ((way_to old h).at ≢ h) → way_to new (suc h) ≡ way_to old (suc h)
      apart earlier is =
          let stays : way_to old (suc h) ≡ way_to old h = on_apart (way_to old h) h (old h) is.1 in
          let at : (way_to old (suc h)).at ≡ (way_to old h).at = ap (λ (w : Way). w.at) stays in
          let before = earlier (omega (arith, le, at)) in
          on_apart (way_to new h) h (new h) (λ same. is.1 (sym (ap (λ (w : Way). w.at) before) ∙ same)) ∙ before ∙ sym stays

  -- the numbers up to one that the ends lead to are the same with more ends
  pub same_numbers : (n : ℕ) → leads_to old n ≡ true → (numbers_up_to new n ≡ numbers_up_to old n) × (leads_to new n ≡ true)
  same_numbers n h =
      let at : (way_to old (segment_of n)).at ≡ segment_of n = (Decides-eqb (way_to old (segment_of n)).at (segment_of n)).0 h in
      let same = same_way (segment_of n) (omega (arith, at)) in (
        ap (λ (w : Way). w.passed ++ numbers_of_segment (segment_of n) (sequence_of n)) same,
        ap (λ (w : Way). w.at == segment_of n) same ∙ h,
      )

  -- what is reached stays so with more ends and more numbers
  pub still_reached : (there then : ℕ → Bool) → ((n : ℕ) → there n ≡ true → then n ≡ true) → (n : ℕ) → is_reached there old n ≡ true → is_reached then new n ≡ true
  still_reached there then more n h =
      let from = by_both (leads_to old n) (list_all there (numbers_up_to old n)) h in
      let same = same_numbers n from.0 in
      both_hold (leads_to new n) (list_all then (numbers_up_to new n)) same.1
      (ap (list_all then) same.0 ∙ all_stay there then more (numbers_up_to old n) from.1)
    where
      by_both : (a b : Bool) → (a && b) ≡ true → (a ≡ true) × (b ≡ true)
      by_both true b h = (refl, h)
      by_both false b h = absurd (false≢true h)

-- ---- the front

greatest_only : (p : ℕ → Bool) (limit n : ℕ) → p n ≡ true → ((k : ℕ) → n < k → p k ≡ false) → n ≤ limit → n ≡ greatest_passing limit p
greatest_only p zero n h gap le = omega arith
greatest_only p (suc m) n h gap le =
    ⊎_elim
    (λ (below : n < suc m). greatest_only p m n h gap (omega arith) ∙ sym (ap (λ (b : Bool). cond b (suc m) (greatest_passing m p)) (gap (suc m) below)))
    (λ (reached : suc m ≤ n).
    let same : n ≡ suc m = omega arith in
    same ∙ sym (ap (λ (b : Bool). cond b (suc m) (greatest_passing m p)) (subst (λ (k : ℕ). p k ≡ true) same h)))
    (cases_lt n (suc m))

-- the front is the only number that is reached and at which there is a gap
pub front_only : (there : ℕ → Bool) (ends : StatedEnds) (limit n : ℕ) → AreRight ends → is_reached there ends n ≡ true → IsGap there ends n → n ≤ limit → n ≡ greatest_passing limit (is_reached there ends)
front_only there ends limit n right reached gap le =
    greatest_only (is_reached there ends) limit n reached (λ m later. none_behind ends right there n m later reached gap) le
