-- The threshold of sorted remainders.
use Rattle.std.proofs.Common.{◌≡◌, ℕ, ◌+◌, ◌-◌, ◌<◌, ◌≤◌, ◌==◌, List, length, take, drop, get_or, nat_lt, sym, subst, arith}
use Rattle.std.specs.List.Sorted.{IsNonDecreasingBy, IsPermutation, IsSorted}
use Rattle.std.specs.Ordering.{nat_cmp}
use Rattle.std.proofs.lemmas.Bool.Decides.{nat_tests}
use Rattle.std.proofs.lemmas.List.{get_or-drop, get_or-take, length-drop, length-take}
use Rattle.std.proofs.lemmas.List.Elements.{All-from_get_or}
use Rattle.std.proofs.lemmas.List.Sorted.{IsNonDecreasingBy-from_sort, length_permutation, sum_by-IsPermutation}
use Rattle.std.proofs.lemmas.List.Sums.{count_by-le-length, sum_by-le, sum_by-take-drop}
use Rattle.pool_split.specs.Threshold.{IsThreshold}
use Rattle.pool_split.proofs.lemmas.Counts.{above, at, one_if, ones_at_least, sum_by_both}

not_above : (t r : ℕ) → r ≤ t → one_if (nat_lt t r) ≤ 0
not_above t r low = grind (arith, nat_tests)

above_or_at : (t r : ℕ) → t ≤ r → 1 ≤ one_if (nat_lt t r) + one_if (t == r)
above_or_at t r high = grind (arith, nat_tests)

-- in rising numbers, those above the one at a place stand behind it
above_behind : (xs : List ℕ) (k d : ℕ) → IsNonDecreasingBy (λ (x : ℕ). x) xs → k < length xs → above (get_or xs k d) xs + k + 1 ≤ length xs
above_behind xs k d rises within =
    let t = get_or xs k d in
    let front = sum_by-le (λ r. one_if (nat_lt t r)) 0 (take (k + 1) xs) (All-from_get_or (λ r. one_if (nat_lt t r) ≤ 0) (take (k + 1) xs) d (λ i low.
    let early : i < k + 1 = omega (arith, low, length-take (k + 1) xs) in
    not_above t (get_or (take (k + 1) xs) i d) (rw (get_or-take (k + 1) xs i d early) (rises i k d (omega arith) within)))) in
    omega (arith, front, sum_by-take-drop (λ r. one_if (nat_lt t r)) xs (k + 1), count_by-le-length (nat_lt t) (drop (k + 1) xs), length-drop (k + 1) xs)

-- and those from the place on are above it or at it
from_place_on : (xs : List ℕ) (k d : ℕ) → IsNonDecreasingBy (λ (x : ℕ). x) xs → k < length xs → length xs ≤ above (get_or xs k d) xs + at (get_or xs k d) xs + k
from_place_on xs k d rises within =
    let t = get_or xs k d in
    let back = ones_at_least (λ r. one_if (nat_lt t r) + one_if (t == r)) (drop k xs) d (λ i low.
    let later : k + i < length xs = omega (arith, low, length-drop k xs) in
    above_or_at t (get_or (drop k xs) i d) (rw (get_or-drop k xs i d) (rises k (k + i) d (omega arith) later))) in
    omega (arith, back, sum_by-take-drop (λ r. one_if (nat_lt t r) + one_if (t == r)) xs k, sum_by_both (λ r. one_if (nat_lt t r)) (λ r. one_if (t == r)) xs, length-drop k xs)

-- the remainder so many places from the end of the sorted ones makes the threshold
pub threshold_is : (rems sorted : List ℕ) (units d t : ℕ) → IsPermutation rems sorted → IsSorted nat_cmp sorted → 1 ≤ units → units ≤ length rems → t ≡ get_or sorted (length rems - units) d
    → (above t rems + 1 ≤ units) × IsThreshold rems units (record { remainder = t; ties = units - above t rems })
threshold_is rems sorted units d t same sort some few place =
    let rises = IsNonDecreasingBy-from_sort (λ (x : ℕ). x) sorted sort in
    let size = length_permutation rems sorted same in
    let within : length rems - units < length sorted = omega (arith, size) in
    let higher : above t sorted ≡ above t rems = sum_by-IsPermutation (λ r. one_if (nat_lt t r)) rems sorted same in
    let ties : at t sorted ≡ at t rems = sum_by-IsPermutation (λ r. one_if (t == r)) rems sorted same in
    let behind = above_behind sorted (length rems - units) d rises within in
    let onward = from_place_on sorted (length rems - units) d rises within in
    let lower : above t sorted + (length rems - units) + 1 ≤ length sorted = subst (λ (x : ℕ). above x sorted + (length rems - units) + 1 ≤ length sorted) (sym place) behind in
    let most : length sorted ≤ above t sorted + at t sorted + (length rems - units) = subst (λ (x : ℕ). length sorted ≤ above x sorted + at x sorted + (length rems - units)) (sym place) onward in (
      omega (arith, lower, higher, size),
      record {
        units_are = omega (arith, lower, higher, size);
        some = omega (arith, lower, higher, size);
        enough = omega (arith, lower, most, higher, ties, size);
      },
    )
