-- Splits and credits add up, by their definitions alone.
use Rattle.std.proofs.Common.{◌≡◌, ℕ, zero, suc, ◌+◌, ◌-◌, ◌<◌, ◌≤◌, ◌==◌, All, List, [], ◌∷◌, Option, Some, None, get_or, length, map, min, nat_lt, sum, take, refl, ap, subst, sym, ◌∙◌, arith, ⊎_elim}
use Rattle.std.specs.List.{range_with_len}
use Rattle.std.proofs.lemmas.Bool.{cases_lt}
use Rattle.std.proofs.lemmas.Bool.Decides.{nat_tests}
use Rattle.std.proofs.lemmas.List.{length-map, take_all}
use Rattle.std.proofs.lemmas.List.Elements.{All-tail}
use Rattle.std.proofs.lemmas.List.FromFn.{map-range_with_len_more}
use Rattle.std.proofs.lemmas.List.Sums.{sum_by-cons, sum_by_more, sum_by_push}
use Rattle.share_rules.specs.declared.holder.Holder.{Holder}
use Rattle.pool_split.specs.Credits.{IsPayable, HasWeights, claim_credits, claim_credits_by, credits, paid_credits, points_claimed, units_of, weights_in}
use Rattle.pool_split.specs.Split.{IsFair, left, quotient, quotients, remainder, remainders, split_of}
use Rattle.pool_split.specs.Threshold.{IsThreshold, threshold_part, threshold_parts, units_of_threshold}
use Rattle.pool_split.specs.declared.claim.Claim.{Claim}
use Rattle.pool_split.specs.declared.threshold.Threshold.{Threshold}
use Rattle.pool_split.proofs.lemmas.Counts.{above, at, one_if, unit_adds}
use Rattle.pool_split.proofs.lemmas.Parts.{fair, left_within, length-split_of, threshold_adds, threshold_parts_are, whole_parts, whole_within}
use Rattle.pool_split.proofs.lemmas.Units.{held_units, units_append, some_points}

next_or_at : (m r : ℕ) → one_if (nat_lt m r) ≡ one_if (nat_lt (m + 1) r) + one_if ((m + 1) == r)
next_or_at m r = grind (arith, nat_tests)

-- what is above a number is above the next one or at it
above_next : (m : ℕ) (rems : List ℕ) → above m rems ≡ above (m + 1) rems + at (m + 1) rems
above_next m [] = omega arith
above_next m (r ∷ rems) =
    omega (
      arith,
      next_or_at m r,
      sum_by-cons (λ r. one_if (nat_lt m r)) r rems,
      sum_by-cons (λ r. one_if (nat_lt (m + 1) r)) r rems,
      sum_by-cons (λ r. one_if ((m + 1) == r)) r rems,
      above_next m rems,
    )

some_or_none : (r : ℕ) → one_if (nat_lt 0 r) + one_if (0 == r) ≡ 1
some_or_none r = grind (arith, nat_tests)

-- all are above zero or at it
above_or_zero : (rems : List ℕ) → above 0 rems + at 0 rems ≡ length rems
above_or_zero [] = omega arith
above_or_zero (r ∷ rems) =
    omega (arith, some_or_none r, sum_by-cons (λ r. one_if (nat_lt 0 r)) r rems, sum_by-cons (λ r. one_if (0 == r)) r rems, above_or_zero rems)

not_above : (m r : ℕ) → r ≤ m → one_if (nat_lt m r) ≡ 0
not_above m r low = grind (arith, nat_tests)

-- none is above the sum of all
none_above : (m : ℕ) (rems : List ℕ) → sum rems ≤ m → above m rems ≡ 0
none_above m [] low = omega arith
none_above m (r ∷ rems) low =
    let all = sum_by-cons (λ (n : ℕ). n) r rems in
    omega (arith, sum_by-cons (λ r. one_if (nat_lt m r)) r rems, not_above m r (omega (arith, all, low)), none_above m rems (omega (arith, all, low)))

-- so many units have a threshold, which is found downwards from a number that fewer are above
threshold_below : (rems : List ℕ) (units m : ℕ) (Goal : Type 0) → 1 ≤ units → units ≤ length rems → above m rems < units → ((t : Threshold) → IsThreshold rems units t → Goal) → Goal
threshold_below rems units zero Goal some few less found =
    found (record { remainder = 0; ties = units - above 0 rems }) (record {
      units_are = omega (arith, less);
      some = omega (arith, less);
      enough = omega (arith, few, above_or_zero rems);
    })
threshold_below rems units (suc m) Goal some few less found =
    let next : suc m ≡ m + 1 = omega arith in
    let down = above_next m rems in
    ⊎_elim
    (λ (lower : above m rems < units). threshold_below rems units m Goal some few lower found)
    (λ (here : units ≤ above m rems).
    found (record { remainder = m + 1; ties = units - above (m + 1) rems }) (record {
      units_are = omega (arith, ap (λ (n : ℕ). above n rems) next, less);
      some = omega (arith, ap (λ (n : ℕ). above n rems) next, less);
      enough = omega (arith, down, here);
    }))
    (cases_lt (above m rems) units)

-- the parts of a threshold up to a place are the whole units and the units given there
parts_to : (q r : List ℕ) (t : Threshold) (n : ℕ) → length q ≡ length r → n ≤ length q → sum (map (threshold_part q r t) (range_with_len 0 n)) ≡ sum (take n q) + (above t.remainder (take n r) + min t.ties (at t.remainder (take n r)))
parts_to q r t zero same within = omega arith
parts_to q r t (suc n) same within =
    let next : suc n ≡ n + 1 = omega arith in
    let low : n < length q = omega arith in
    let low_r : n < length r = omega (arith, same) in
    let pushed = ap sum (map-range_with_len_more (threshold_part q r t) 0 n n (omega arith)) ∙ sum_by_push (λ (m : ℕ). m) (map (threshold_part q r t) (range_with_len 0 n)) (threshold_part q r t n) in
    let UpTo : ℕ → Type 0 = λ k. sum (map (threshold_part q r t) (range_with_len 0 k)) ≡ sum (take k q) + (above t.remainder (take k r) + min t.ties (at t.remainder (take k r))) in
    subst UpTo (sym next) (omega (
      arith,
      pushed,
      parts_to q r t n same (omega arith),
      sum_by_more (λ (m : ℕ). m) q n 0 low,
      sum_by_more (λ (m : ℕ). one_if (nat_lt t.remainder m)) r n 0 low_r,
      sum_by_more (λ (m : ℕ). one_if (t.remainder == m)) r n 0 low_r,
      unit_adds t.remainder (get_or r n 0) t.ties (at t.remainder (take n r)),
    ))

-- the parts of a threshold are the whole units and its own
pub threshold_parts_sum : (q r : List ℕ) (t : Threshold) → length q ≡ length r → sum (threshold_parts q r t) ≡ sum q + units_of_threshold r t
threshold_parts_sum q r t same =
    parts_to q r t (length q) same (omega arith)
    ∙ ap (λ (xs : List ℕ). sum xs + (above t.remainder (take (length q) r) + min t.ties (at t.remainder (take (length q) r)))) (take_all (length q) q (omega arith))
    ∙ ap (λ (xs : List ℕ). sum q + (above t.remainder xs + min t.ties (at t.remainder xs))) (take_all (length q) r (omega (arith, same)))

-- a split is fair, whatever is split over weights of which one is not zero
pub split_is_fair : (a : ℕ) (ws : List ℕ) → 1 ≤ sum ws → IsFair a ws (split_of a ws)
split_is_fair a ws some =
    ⊎_elim
    (λ (more : 0 < left a ws).
    let few : left a ws ≤ length (remainders a ws) = omega (arith, left_within a ws some, length-map ws (remainder a (sum ws))) in
    let none : above (sum (remainders a ws)) (remainders a ws) < left a ws = omega (arith, more, none_above (sum (remainders a ws)) (remainders a ws) (omega arith)) in
    threshold_below (remainders a ws) (left a ws) (sum (remainders a ws)) (IsFair a ws (split_of a ws)) more few none
    (λ t is. fair a ws (split_of a ws) some refl (ap sum (sym (threshold_parts_are a ws t is)) ∙ threshold_parts_sum (quotients a ws) (remainders a ws) t (length-map ws (quotient a (sum ws)) ∙ sym (length-map ws (remainder a (sum ws)))) ∙ threshold_adds a ws t some is)))
    (λ (nothing : left a ws ≤ 0).
    let none : left a ws ≡ 0 = omega (arith, nothing) in
    fair a ws (split_of a ws) some refl (ap sum (sym (whole_parts a ws none)) ∙ omega (arith, none, whole_within a ws some)))
    (cases_lt 0 (left a ws))

by_holders : (isrc : List ℕ) (holders : Option (List Holder)) (units : ℕ) → HasWeights holders → sum (map units_of (claim_credits_by isrc holders units)) ≡ units
by_holders isrc None units has = omega arith
by_holders isrc (Some holders) units has =
    held_units isrc holders (split_of units (weights_in holders)) (length-split_of units (weights_in holders) ∙ length-map holders (λ (h : Holder). h.weight))
    ∙ (split_is_fair units (weights_in holders) has.0).whole

paid_adds : (claims : List Claim) (parts : List ℕ) → length parts ≡ length claims → All IsPayable claims → sum (map units_of (paid_credits claims parts)) ≡ sum parts
paid_adds [] [] same payable = refl
paid_adds [] (p ∷ parts) same payable = absurd (omega arith)
paid_adds (claim ∷ claims) [] same payable = absurd (omega arith)
paid_adds (claim ∷ claims) (p ∷ parts) same payable =
    omega (
      arith,
      units_append (claim_credits claim p) (paid_credits claims parts),
      by_holders claim.isrc claim.holders p (payable 0 claim (omega arith)).holders,
      paid_adds claims parts (omega arith) (All-tail IsPayable claim claims payable),
      sum_by-cons (λ (n : ℕ). n) p parts,
    )

-- the credits of claims that can be paid add up to the amount
pub credits_add : (amount : ℕ) (claims : List Claim) → All IsPayable claims → sum (map units_of (credits amount claims)) ≡ amount
unfolding credits
credits_add amount [] payable = omega arith
credits_add amount (claim ∷ claims) payable =
    let points = points_claimed (claim ∷ claims) in
    paid_adds (claim ∷ claims) (split_of amount points) (length-split_of amount points ∙ length-map (claim ∷ claims) (λ (c : Claim). c.points)) payable
    ∙ (split_is_fair amount points (some_points (claim ∷ claims) (omega arith) payable)).whole
