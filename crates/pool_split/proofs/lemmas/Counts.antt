-- Counts of remainders above one and at it.
use Rattle.std.proofs.Common.{◌*◌, ◌≡◌, ℕ, zero, suc, ◌+◌, ◌-◌, ◌<◌, ◌≤◌, ◌==◌, Bool, cond, List, [], ◌∷◌, length, take, get_or, sum_by, count_by, nat_lt, min, refl, ap, ◌∙◌, arith, ⊎_elim}
use Rattle.std.proofs.lemmas.Bool.{cases_lt}
use Rattle.std.proofs.lemmas.Bool.Decides.{nat_tests}
use Rattle.std.proofs.lemmas.List.Sums.{sum_by-cons, sum_by-le-sum_by, sum_by_more, sum_by_more_le}
use Rattle.std.proofs.lemmas.List.{take_all}
use Rattle.pool_split.specs.Threshold.{IsThreshold, threshold_unit, takes_unit, ties_at}
use Rattle.pool_split.specs.Split.{places_before, unit}
use Rattle.pool_split.specs.declared.threshold.Threshold.{Threshold}

-- how many remainders are above one, and how many are at it
abbrev pub above : ℕ → List ℕ → ℕ
above x rems = count_by (nat_lt x) rems

abbrev pub at : ℕ → List ℕ → ℕ
at x rems = count_by (λ other. x == other) rems

-- two sums are the sum of both
pub sum_by_both : {X : Type 0} (f g : X → ℕ) (xs : List X) → sum_by f xs + sum_by g xs ≡ sum_by (λ x. f x + g x) xs
sum_by_both f g [] = refl
sum_by_both f g (x ∷ xs) =
    omega (arith, sum_by-cons f x xs, sum_by-cons g x xs, sum_by-cons (λ y. f y + g y) x xs, sum_by_both f g xs)

-- one where a test holds
abbrev pub one_if : Bool → ℕ
one_if b = cond b 1 0

one_or_none : (t x r : ℕ) → t < x → one_if (nat_lt x r) + one_if (x == r) ≤ one_if (nat_lt t r)
one_or_none t x r less = grind (arith, nat_tests)

-- what is above a remainder or at it is above a lower one
pub above_lower : (t x : ℕ) (rems : List ℕ) → t < x → above x rems + at x rems ≤ above t rems
above_lower t x rems less =
    let both = sum_by_both (λ r. one_if (nat_lt x r)) (λ r. one_if (x == r)) rems in
    let fewer = sum_by-le-sum_by (λ r. one_if (nat_lt x r) + one_if (x == r)) (λ r. one_if (nat_lt t r)) rems (λ r. one_or_none t x r less) in
    omega (arith, both, fewer)

own_unit : (x : ℕ) → one_if (x == x) ≡ 1
own_unit x = grind (arith, nat_tests)

-- a place is at its own remainder, so fewer are before it than there are
pub at_place : (rems : List ℕ) (i : ℕ) → i < length rems → at (get_or rems i 0) (take i rems) + 1 ≤ at (get_or rems i 0) rems
at_place rems i within =
    omega (arith, sum_by_more_le (λ other. one_if (get_or rems i 0 == other)) rems i 0 within, own_unit (get_or rems i 0))

-- the unit of a threshold is that of the places before, by where the remainder is
unit_above : (t x ties before units : ℕ) → t < x → before < units → one_if (takes_unit t ties x) ≡ one_if (nat_lt before units)
unit_above t x ties before units more first = grind (arith, nat_tests)

unit_below : (t x ties before units : ℕ) → x < t → units ≤ before → one_if (takes_unit t ties x) ≡ one_if (nat_lt before units)
unit_below t x ties before units less late = grind (arith, nat_tests)

unit_at : (t x ties seen high units : ℕ) → t ≡ x → high + ties ≡ units → one_if (takes_unit t (ties - seen) x) ≡ one_if (nat_lt (high + seen) units)
unit_at t x ties seen high units same split = grind (arith, nat_tests)

at_same : (x t : ℕ) (rems : List ℕ) (units ties i : ℕ) → t ≡ x → above t rems + ties ≡ units → one_if (takes_unit t (ties - at t (take i rems)) x) ≡ one_if (nat_lt (above x rems + at x (take i rems)) units)
at_same x t rems units ties i same split =
    unit_at t x ties (at t (take i rems)) (above t rems) units same split
    ∙ ap (λ (y : ℕ). one_if (nat_lt (above y rems + at y (take i rems)) units)) same

-- a threshold gives a unit to the places before which fewer go than there are units
pub threshold_unit_is : (rems : List ℕ) (units : ℕ) (threshold : Threshold) (i : ℕ) → IsThreshold rems units threshold → i < length rems → threshold_unit rems threshold i ≡ unit rems units i
threshold_unit_is rems units threshold i is within =
    let t = threshold.remainder in
    let x = get_or rems i 0 in
    ⊎_elim
    (λ (below : x < t).
    unit_below t x (ties_at rems threshold i) (places_before rems i) units below (omega (arith, above_lower x t rems below, is.units_are, is.enough)))
    (λ (reached : t ≤ x).
    ⊎_elim
    (λ (more : t < x).
    unit_above t x (ties_at rems threshold i) (places_before rems i) units more (omega (arith, above_lower t x rems more, at_place rems i within, is.units_are, is.some)))
    (λ (least : x ≤ t).
    let same : t ≡ x = omega arith in
    at_same x t rems units threshold.ties i same is.units_are)
    (cases_lt t x))
    (cases_lt x t)

ones_to : {X : Type 0} (f : X → ℕ) (xs : List X) (d : X) (n : ℕ) → n ≤ length xs → ((i : ℕ) → i < length xs → 1 ≤ f (get_or xs i d)) → n ≤ sum_by f (take n xs)
ones_to f xs d zero within each = omega arith
ones_to f xs d (suc n) within each =
    let next : suc n ≡ n + 1 = omega arith in
    rw next (omega (arith, sum_by_more f xs n d (omega arith), each n (omega arith), ones_to f xs d n (omega arith) each))

-- numbers that are at least one add up to at least as many
pub ones_at_least : {X : Type 0} (f : X → ℕ) (xs : List X) (d : X) → ((i : ℕ) → i < length xs → 1 ≤ f (get_or xs i d)) → length xs ≤ sum_by f xs
ones_at_least f xs d each =
    let all = take_all (length xs) xs (omega arith) in
    omega (arith, ones_to f xs d (length xs) (omega arith) each, ap (sum_by f) all)

-- the unit of a place is what it adds to those above the threshold and to its ties
pub unit_adds : (t x ties seen : ℕ) → min ties seen + one_if (takes_unit t (ties - seen) x) ≡ one_if (nat_lt t x) + min ties (seen + one_if (t == x))
unit_adds t x ties seen = grind (arith, nat_tests)

-- a remainder below the total counts once where it is not zero
pub above_once : (r d : ℕ) → r < d → r ≤ one_if (nat_lt 0 r) * d
above_once zero d less = omega arith
above_once (suc r) d less =
    let one : one_if (nat_lt 0 (suc r)) ≡ 1 = grind (arith, nat_tests) in
    omega (arith, ap (λ (n : ℕ). n * d) one)
