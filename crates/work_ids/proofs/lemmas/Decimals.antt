-- Facts on decimal digits.
use Rattle.std.proofs.Common.{◌≡◌, ℕ, suc, ◌+◌, ◌-◌, ◌*◌, ◌^◌, ◌<◌, ◌≤◌, min, true, false, List, Some, None, refl, arith}
use Rattle.std.specs.Char.{digit_value}
use Rattle.std.specs.Str.Parse.{digits_value}
use Rattle.std.proofs.lemmas.Bool.Decides.{nat_tests}
use Rattle.std.proofs.Math.Nat.{pow-le-pow_right, pow-suc}
use Rattle.work_ids.specs.Characters.{is_digit}
use Rattle.work_ids.specs.Digits.{is_number, decimal_value}

-- the value of a digit
pub digit_is : (c : ℕ) → is_digit c ≡ true → (48 ≤ c) × (c ≤ 57) × (digit_value c ≡ c - 48)
digit_is c e = (grind (arith, nat_tests), grind (arith, nat_tests), grind (arith, nat_tests))

-- one more digit of a number that stops above a limit
pub min_more : (a b m d : ℕ) → b ≡ min a (m + 1) → d ≤ 9 → min (b * 10 + d) (m + 1) ≡ min (a * 10 + d) (m + 1)
min_more a b m d e l = omega arith

-- one more digit on a number of fewer than 19 of them fits 64 bits
pub digit_fits : (value digit i n : ℕ) → value < 10 ^ i → i < n → n ≤ 19 → digit < 10 → 10 * value + digit < 2 ^ 64
digit_fits value digit i n room within few small =
    let few_before : i ≤ 18 = omega arith in
    let ten : 0 < 10 = omega arith in
    let below = pow-le-pow_right {n = 10} ten few_before in
    omega arith

-- bytes that are no number have none
pub no_number : (bytes : List ℕ) → is_number bytes ≡ false → None ≡ decimal_value bytes
unfolding decimal_value
no_number bytes none = rw none refl

-- digits alone have their value
pub the_number : (bytes : List ℕ) → is_number bytes ≡ true → Some (digits_value 10 bytes) ≡ decimal_value bytes
unfolding decimal_value
the_number bytes some = rw some refl

-- one more digit makes a number of one more digit
pub room_more : (value digit i : ℕ) → value < 10 ^ i → digit ≤ 9 → 10 * value + digit < 10 ^ (i + 1)
room_more value digit i room small =
    let next : i + 1 ≡ suc i = omega arith in
    rw (next, pow-suc 10 i) (omega arith)
