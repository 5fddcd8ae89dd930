-- Whole units and remainders of an amount over weights.
use Rattle.std.proofs.Common.{◌≡◌, ℕ, zero, suc, ◌+◌, ◌*◌, ◌<◌, ◌≤◌, List, [], ◌∷◌, Result, Ok, Err, IfOk, length, get_or, map, nat_lt, sum, ap, sym, subst, ◌∙◌, arith, ⊎_elim}
use Rattle.std.proofs.Math.Nat.{div-add-mod, le_of_mul-le-mul_right, mod-lt, mul_comm}
use Rattle.std.proofs.lemmas.Bool.{cases_lt}
use Rattle.std.proofs.lemmas.Bool.Decides.{nat_tests}
use Rattle.std.proofs.lemmas.List.{get_or-map, get_or_past, length-map}
use Rattle.std.proofs.lemmas.List.FromFn.{fill_by_all, get_or-map-range_with_len, length-map-range_with_len}
use Rattle.std.proofs.lemmas.List.Sums.{sum_by-cons}
use Rattle.pool_split.specs.Threshold.{IsThreshold, threshold_part, threshold_parts, units_of_threshold}
use Rattle.pool_split.specs.Split.{IsFair, IsNear, left, part, places_before, quotient, quotients, remainder, remainders, split_of, unit}
use Rattle.pool_split.specs.declared.threshold.Threshold.{Threshold}
use Rattle.pool_split.proofs.lemmas.Counts.{above, above_once, threshold_unit_is, one_if}

both_times : (d a b : ℕ) → d * (a + b) ≡ d * a + d * b
both_times d a b = omega arith

times_both : (a b d : ℕ) → (a + b) * d ≡ a * d + b * d
times_both a b d = omega arith

-- the whole units and the remainders make up the amount times the weights
whole_and_rest : (a d : ℕ) (ws : List ℕ) → d * sum (map (quotient a d) ws) + sum (map (remainder a d) ws) ≡ a * sum ws
whole_and_rest a d [] = omega arith
whole_and_rest a d (w ∷ ws) =
    let q = quotient a d w in
    let rest_q = sum (map (quotient a d) ws) in
    let sums = ap (λ (n : ℕ). d * n) (sum_by-cons (λ (n : ℕ). n) q (map (quotient a d) ws)) in
    let weights = ap (λ (n : ℕ). a * n) (sum_by-cons (λ (n : ℕ). n) w ws) in
    omega (arith, sums, weights, sum_by-cons (λ (n : ℕ). n) (remainder a d w) (map (remainder a d) ws), both_times d q rest_q, both_times a w (sum ws), div-add-mod (a * w) d, whole_and_rest a d ws)

-- each remainder is below the total
rest_within : (a d : ℕ) (ws : List ℕ) → 0 < d → sum (map (remainder a d) ws) ≤ length ws * d
rest_within a d [] some = omega arith
rest_within a d (w ∷ ws) some =
    let next : suc (length ws) * d ≡ length ws * d + d = omega arith in
    omega (arith, next, sum_by-cons (λ (n : ℕ). n) (remainder a d w) (map (remainder a d) ws), mod-lt (a * w) some, rest_within a d ws some)

-- the whole units are at most the amount
pub whole_within : (a : ℕ) (ws : List ℕ) → 1 ≤ sum ws → sum (quotients a ws) ≤ a
whole_within a ws some =
    let d = sum ws in
    let q = sum (quotients a ws) in
    let times : q * d ≤ a * d = omega (arith, whole_and_rest a d ws, mul_comm d q) in
    le_of_mul-le-mul_right times some

-- they leave at most one unit for each part
pub left_within : (a : ℕ) (ws : List ℕ) → 1 ≤ sum ws → left a ws ≤ length ws
left_within a ws some =
    let d = sum ws in
    let q = sum (quotients a ws) in
    let n = left a ws in
    let all : a ≡ q + n = omega (arith, whole_within a ws some) in
    let sums : a * d ≡ q * d + n * d = ap (λ (m : ℕ). m * d) all ∙ times_both q n d in
    let times : n * d ≤ length ws * d = omega (arith, sums, whole_and_rest a d ws, mul_comm d q, rest_within a d ws some) in
    le_of_mul-le-mul_right times some

none_more : (q before units : ℕ) → units ≡ 0 → q ≡ q + one_if (nat_lt before units)
none_more q before units none = grind (arith, nat_tests)

-- where nothing is left the whole units are the parts
pub whole_parts : (a : ℕ) (ws : List ℕ) → left a ws ≡ 0 → quotients a ws ≡ split_of a ws
unfolding split_of
whole_parts a ws none =
    fill_by_all (part a ws) (quotients a ws) (length ws) 0 (length-map ws (quotient a (sum ws)))
    (λ k low. none_more (get_or (quotients a ws) k 0) _ (left a ws) none)

-- the parts of a threshold are those of the amount
pub threshold_parts_are : (a : ℕ) (ws : List ℕ) (threshold : Threshold) → IsThreshold (remainders a ws) (left a ws) threshold → threshold_parts (quotients a ws) (remainders a ws) threshold ≡ split_of a ws
unfolding split_of
threshold_parts_are a ws threshold is =
    let q = quotients a ws in
    let r = remainders a ws in
    let as_many : length q ≡ length ws = length-map ws (quotient a (sum ws)) in
    let as_many_r : length r ≡ length ws = length-map ws (remainder a (sum ws)) in
    fill_by_all (part a ws) (threshold_parts q r threshold) (length ws) 0 (length-map-range_with_len (threshold_part q r threshold) 0 (length q) ∙ as_many)
    (λ k low.
    get_or-map-range_with_len (threshold_part q r threshold) 0 (length q) k k 0 (omega (arith, low, as_many)) (omega arith)
    ∙ ap (λ (n : ℕ). get_or q k 0 + n) (threshold_unit_is r (left a ws) threshold k is (omega (arith, low, as_many_r))))

-- what follows from two things that hold of a result holds of it
pub if_ok_both : {T E : Type 0} {P Q S : T → Type 0} (r : Result T E) → IfOk r P → IfOk r Q → ((x : T) → P x → Q x → S x) → IfOk r S
if_ok_both (Ok x) h g then = then x h g
if_ok_both (Err e) h g then = tt

-- a remainder that is not zero is one of those above zero
rest_above : (a d : ℕ) (ws : List ℕ) → 0 < d → sum (map (remainder a d) ws) ≤ above 0 (map (remainder a d) ws) * d
rest_above a d [] some = omega arith
rest_above a d (w ∷ ws) some =
    let r = remainder a d w in
    let high = above 0 (map (remainder a d) ws) in
    let one : r ≤ one_if (nat_lt 0 r) * d = above_once r d (mod-lt (a * w) some) in
    let times = ap (λ (n : ℕ). n * d) (sum_by-cons (λ (n : ℕ). one_if (nat_lt 0 n)) r (map (remainder a d) ws)) in
    omega (arith, one, times, times_both (one_if (nat_lt 0 r)) high d, sum_by-cons (λ (n : ℕ). n) r (map (remainder a d) ws), rest_above a d ws some)

-- what is left is no more than there are remainders above zero
left_above : (a : ℕ) (ws : List ℕ) → 1 ≤ sum ws → left a ws ≤ above 0 (remainders a ws)
left_above a ws some =
    let d = sum ws in
    let q = sum (quotients a ws) in
    let n = left a ws in
    let all : a ≡ q + n = omega (arith, whole_within a ws some) in
    let sums : a * d ≡ q * d + n * d = ap (λ (m : ℕ). m * d) all ∙ times_both q n d in
    let times : n * d ≤ above 0 (remainders a ws) * d = omega (arith, sums, whole_and_rest a d ws, mul_comm d q, rest_above a d ws some) in
    le_of_mul-le-mul_right times some

late : (before units : ℕ) → units ≤ before → one_if (nat_lt before units) ≡ 0
late before units enough = grind (arith, nat_tests)

-- a place without a remainder gets no unit
no_unit : (a : ℕ) (ws : List ℕ) (i : ℕ) → 1 ≤ sum ws → get_or (remainders a ws) i 0 ≡ 0 → unit (remainders a ws) (left a ws) i ≡ 0
no_unit a ws i some none =
    let high : above (get_or (remainders a ws) i 0) (remainders a ws) ≡ above 0 (remainders a ws) = ap (λ (n : ℕ). above n (remainders a ws)) none in
    late (places_before (remainders a ws) i) (left a ws) (omega (arith, high, left_above a ws some))

unit_within : (before units : ℕ) → one_if (nat_lt before units) ≤ 1
unit_within before units = grind (arith, nat_tests)

-- a part by its place
part_at : (a : ℕ) (ws : List ℕ) (i : ℕ) → i < length ws → get_or (split_of a ws) i 0 ≡ quotient a (sum ws) (get_or ws i 0) + unit (remainders a ws) (left a ws) i
unfolding split_of
part_at a ws i within =
    get_or-map-range_with_len (part a ws) 0 (length ws) i i 0 within (omega arith)
    ∙ ap (λ (n : ℕ). n + unit (remainders a ws) (left a ws) i) (get_or-map (quotient a (sum ws)) ws i 0 0 within)

times_unit : (d u : ℕ) → u ≤ 1 → d * u ≤ d
times_unit d zero small = omega arith
times_unit d (suc zero) small = omega arith
times_unit d (suc (suc u)) small = absurd (omega arith)

near_by : (d q r u w a p : ℕ) → d * q + r ≡ a * w → r < d → u ≤ 1 → (r ≡ 0 → u ≡ 0) → p ≡ q + u → IsNear d a w p
near_by d q r u w a p exact less small none is =
    let whole : d * p ≡ d * q + d * u = ap (λ (n : ℕ). d * n) is ∙ both_times d q u in
    let most = times_unit d u small in
    ⊎_elim
    (λ (some : 0 < r). (omega (arith, exact, whole, most, some), omega (arith, exact, whole, less)))
    (λ (zero_r : r ≤ 0).
    let nothing : d * u ≡ 0 = ap (λ (n : ℕ). d * n) (none (omega arith)) ∙ omega arith in
    (omega (arith, exact, whole, nothing, less), omega (arith, exact, whole, nothing, less)))
    (cases_lt 0 r)

-- a part is near its share
near_is : (a : ℕ) (ws : List ℕ) (i : ℕ) → 1 ≤ sum ws → i < length ws → IsNear (sum ws) a (get_or ws i 0) (get_or (split_of a ws) i 0)
near_is a ws i some within =
    let d = sum ws in
    let w = get_or ws i 0 in
    let own = get_or-map (remainder a d) ws i 0 0 within in
    near_by d (quotient a d w) (remainder a d w) (unit (remainders a ws) (left a ws) i) w a (get_or (split_of a ws) i 0)
    (div-add-mod (a * w) d) (mod-lt (a * w) some) (unit_within (places_before (remainders a ws) i) (left a ws)) (λ none. no_unit a ws i some (own ∙ none)) (part_at a ws i within)

-- a weight of zero gets nothing
nothing_is : (a : ℕ) (ws : List ℕ) (i : ℕ) → 1 ≤ sum ws → i < length ws → get_or ws i 0 ≡ 0 → get_or (split_of a ws) i 0 ≡ 0
nothing_is a ws i some within none =
    let d = sum ws in
    let w = get_or ws i 0 in
    let exact = div-add-mod (a * w) d in
    let nil : a * w ≡ 0 = ap (λ (n : ℕ). a * n) none ∙ omega arith in
    let rest : remainder a d w ≡ 0 = omega (arith, exact, nil) in
    let times : quotient a d w * d ≤ 0 * d = omega (arith, exact, nil, mul_comm d (quotient a d w)) in
    let whole = le_of_mul-le-mul_right times some in
    let one = no_unit a ws i some (get_or-map (remainder a d) ws i 0 0 within ∙ rest) in
    omega (arith, part_at a ws i within, whole, one)

pub length-split_of : (a : ℕ) (ws : List ℕ) → length (split_of a ws) ≡ length ws
unfolding split_of
length-split_of a ws = length-map-range_with_len (part a ws) 0 (length ws)

nothing_anywhere : (a : ℕ) (ws : List ℕ) (i : ℕ) → 1 ≤ sum ws → get_or ws i 0 ≡ 0 → get_or (split_of a ws) i 0 ≡ 0
nothing_anywhere a ws i some none =
    ⊎_elim
    (λ (within : i < length ws). nothing_is a ws i some within none)
    (λ (past : length ws ≤ i). get_or_past (split_of a ws) i 0 (omega (arith, past, length-split_of a ws)))
    (cases_lt i (length ws))

-- parts that add up to the amount are fair
pub fair : (a : ℕ) (ws parts : List ℕ) → 1 ≤ sum ws → parts ≡ split_of a ws → sum parts ≡ a → IsFair a ws parts
fair a ws parts some are adds = record {
  whole = adds;
  nothing = λ i none. ap (λ (ps : List ℕ). get_or ps i 0) are ∙ nothing_anywhere a ws i some none;
  near = λ i within. subst (λ (ps : List ℕ). IsNear (sum ws) a (get_or ws i 0) (get_or ps i 0)) (sym are) (near_is a ws i some within);
}

-- the units of a threshold are those that are left
pub threshold_adds : (a : ℕ) (ws : List ℕ) (threshold : Threshold) → 1 ≤ sum ws → IsThreshold (remainders a ws) (left a ws) threshold → sum (quotients a ws) + units_of_threshold (remainders a ws) threshold ≡ a
threshold_adds a ws threshold some is = omega (arith, is.units_are, is.enough, whole_within a ws some)
