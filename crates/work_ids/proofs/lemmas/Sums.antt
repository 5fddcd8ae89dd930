-- The weighted sum of nine digits, and the one digit that completes it.
use Rattle.std.proofs.Common.{◌≡◌, ℕ, ◌+◌, ◌-◌, ◌*◌, ◌%◌, ◌<◌, ◌≤◌, ◌↔◌, true, false, ◌&&◌, ◌==◌, nat_le, List, map, get_or, Some, arith, ap, eq-eqb, eqb-true, le-leb, leb-true}
use Rattle.std.specs.List.{list_all, range_with_len, sum}
use Rattle.std.specs.Cmp.Derive.{both_true}
use Rattle.std.proofs.lemmas.List.FromFn.{sum_by-map-range_with_len_more}
use Rattle.std.proofs.Math.Nat.{mul-le-mul_left}
use Rattle.work_ids.specs.Characters.{is_digit}
use Rattle.work_ids.specs.CheckDigit.{is_check_digit, weighted_sum}
use Rattle.std.proofs.lemmas.Bool.{and_parts}

abbrev worth : List ℕ → ℕ → ℕ
worth digits place = place * (get_or digits (place - 1) 0 - 48)

-- the weighted sum of the first n digits, without the 1
abbrev pub weighted : List ℕ → ℕ → ℕ
weighted digits n = sum (map (λ place. place * (get_or digits (place - 1) 0 - 48)) (range_with_len 1 n))

pub weighted_more : (digits : List ℕ) (total n value : ℕ) → total ≡ 1 + weighted digits n → value ≡ get_or digits n 0 - 48 → total + (n + 1) * value ≡ 1 + weighted digits (n + 1)
weighted_more digits total n value t v =
    let more = sum_by-map-range_with_len_more (λ (x : ℕ). x) (worth digits) 1 n (n + 1) (omega arith) in
    let place : (n + 1) - 1 ≡ n = omega arith in
    let last : (n + 1) * (get_or digits ((n + 1) - 1) 0 - 48) ≡ (n + 1) * value = rw (place, v) in
    omega (arith, more, last, t)

pub product_bound : (n value : ℕ) → n < 9 → value ≤ 207 → (n + 1) * value ≤ 1863
product_bound n value h k = omega (arith, mul-le-mul_left (n + 1) k)

-- what a check digit is
told : (digits : List ℕ) (check : ℕ) → is_check_digit digits check ≡ true → (list_all is_digit digits ≡ true) × (48 ≤ check) × (check ≤ 57) × ((weighted_sum digits + (check - 48)) % 10 ≡ 0)
unfolding is_check_digit
told digits check e =
    let all = and_parts (list_all is_digit digits && (nat_le 48 check && nat_le check 57)) ((weighted_sum digits + (check - 48)) % 10 == 0) e in
    let front = and_parts (list_all is_digit digits) (nat_le 48 check && nat_le check 57) all.0 in
    let range = and_parts (nat_le 48 check) (nat_le check 57) front.1 in
    (front.0, leb-true 48 check range.0, leb-true check 57 range.1, eqb-true ((weighted_sum digits + (check - 48)) % 10) 0 all.1)

-- what the code computes is a check digit, and no other is
pub completes : (digits : List ℕ) (check : ℕ) → list_all is_digit digits ≡ true → (Some (48 + (10 - weighted_sum digits % 10) % 10) ≡ Some check) ↔ (is_check_digit digits check ≡ true)
unfolding is_check_digit
completes digits check digital = (
  λ e.
      let is : 48 + (10 - weighted_sum digits % 10) % 10 ≡ check = cc in
      let ten : (weighted_sum digits + (check - 48)) % 10 ≡ 0 = omega arith in
      both_true (both_true digital (both_true (le-leb 48 check (omega arith)) (le-leb check 57 (omega arith)))) (eq-eqb _ 0 ten),
  λ e.
      let facts = told digits check e in
      ap Some (omega (arith, facts.1, facts.2, facts.3)),
)

pub no_digits : (digits : List ℕ) (check : ℕ) → list_all is_digit digits ≡ false → is_check_digit digits check ≡ true → ⊥
no_digits digits check none e = let digital = (told digits check e).0 in cc
