-- The last digits of a number: written from the last one on, and read back.
use Rattle.std.proofs.Common.{◌≡◌, ℕ, zero, suc, ◌+◌, ◌*◌, ◌<◌, ◌≤◌, ◌/◌, ◌%◌, ◌^◌, ◌-◌, true, List, [], ◌∷◌, ◌++◌, length, get_or, take, drop, set, refl, sym, ap, subst, ◌∙◌, append_assoc, add-one, arith}
use Rattle.std.specs.List.{list_all}
use Rattle.std.specs.Str.Parse.{digits_value}
use Rattle.std.proofs.lemmas.Bool.Decides.{nat_tests}
use Rattle.std.proofs.lemmas.Int.Digits.{digits_value_more, digits_value_push}
use Rattle.std.proofs.lemmas.List.{drop-set, take_all}
use Rattle.std.proofs.lemmas.List.Folds.{list_all-append}
use Rattle.std.proofs.lemmas.List.Sums.{AllPass-from_list_all}
use Rattle.std.proofs.Math.Nat.{pow-suc}
use Rattle.std.proofs.Math.Seq.{take-suc}
use Rattle.work_ids.specs.Characters.{is_digit}
use Rattle.work_ids.specs.Digits.{last_digits}
use Rattle.work_ids.proofs.lemmas.Decimals.{digit_is}

digits-next : (k rest : ℕ) → last_digits (k + 1) rest ≡ last_digits k (rest / 10) ++ (48 + rest % 10) ∷ []
unfolding last_digits
digits-next k rest = rw add-one refl

-- writing the last digit of what is left leaves the digits in front of it
pub digit_written : (bytes : List ℕ) (k rest : ℕ) → k < length bytes → last_digits k (rest / 10) ++ drop k (set bytes k (48 + rest % 10)) ≡ last_digits (k + 1) rest ++ drop (k + 1) bytes
digit_written bytes k rest h =
    ap (λ (t : List ℕ). last_digits k (rest / 10) ++ t) (drop-set bytes k (48 + rest % 10) h)
    ∙ sym (append_assoc (last_digits k (rest / 10)) ((48 + rest % 10) ∷ []) (drop (k + 1) bytes))
    ∙ ap (λ (t : List ℕ). t ++ drop (k + 1) bytes) (sym (digits-next k rest))

-- no digit is left
pub digits-none : (rest : ℕ) (bytes : List ℕ) → last_digits 0 rest ++ drop 0 bytes ≡ bytes
unfolding last_digits
digits-none rest bytes = refl

-- the last digit of a number is a digit
pub last_is_digit : (number : ℕ) → is_digit (48 + number % 10) ≡ true
last_is_digit number = grind (arith, nat_tests)

-- the last digits are digits
pub are_last_digits : (width number : ℕ) → list_all is_digit (last_digits width number) ≡ true
unfolding last_digits
are_last_digits zero number = refl
are_last_digits (suc width) number =
    let front = are_last_digits width (number / 10) in
    let last = last_is_digit number in
    list_all-append is_digit (last_digits width (number / 10)) ((48 + number % 10) ∷ []) ∙ (rw (front, last) refl)

-- the last digits spell a number that has no more of them
pub value_of_last_digits : (width number : ℕ) → number < 10 ^ width → digits_value 10 (last_digits width number) ≡ number
unfolding last_digits
value_of_last_digits zero number h = omega (arith, h)
value_of_last_digits (suc width) number h =
    let power = pow-suc 10 width in
    let front = value_of_last_digits width (number / 10) (omega (arith, h, power)) in
    let last = digit_is (48 + number % 10) (last_is_digit number) in
    digits_value_push 10 (last_digits width (number / 10)) (48 + number % 10) ∙ (omega (arith, front, last.2))

digits_front : (digits : List ℕ) (count : ℕ) → count ≤ length digits → list_all is_digit digits ≡ true → last_digits count (digits_value 10 (take count digits)) ≡ take count digits
unfolding last_digits
digits_front digits zero within all = refl
digits_front digits (suc count) within all =
    let c = get_or digits count 0 in
    let n = digits_value 10 (take count digits) in
    let passes : is_digit c ≡ true = AllPass-from_list_all is_digit digits all count 0 (omega arith) in
    let digit = digit_is c passes in
    let next : suc count ≡ count + 1 = omega arith in
    let value : digits_value 10 (take (suc count) digits) ≡ n * 10 + (c - 48) =
    ap (λ (k : ℕ). digits_value 10 (take k digits)) next ∙ digits_value_more 10 digits count (omega arith) ∙ ap (λ (d : ℕ). n * 10 + d) digit.2 in
    let front : (n * 10 + (c - 48)) / 10 ≡ n = omega (arith, digit.0, digit.1) in
    let last : 48 + (n * 10 + (c - 48)) % 10 ≡ c = omega (arith, digit.0, digit.1) in
    ap (λ (m : ℕ). last_digits count (m / 10) ++ (48 + m % 10) ∷ []) value
    ∙ ap (λ (m : ℕ). last_digits count m ++ (48 + (n * 10 + (c - 48)) % 10) ∷ []) front
    ∙ ap (λ (d : ℕ). last_digits count n ++ d ∷ []) last
    ∙ ap (λ (ds : List ℕ). ds ++ c ∷ []) (digits_front digits count (omega arith) all)
    ∙ sym (take-suc digits count 0 (omega arith))

-- digits are the last ones of the number that they spell
pub last_digits_of : (digits : List ℕ) → list_all is_digit digits ≡ true → last_digits (length digits) (digits_value 10 digits) ≡ digits
last_digits_of digits all =
    let whole = take_all (length digits) digits (omega arith) in
    subst (λ (ds : List ℕ). last_digits (length digits) (digits_value 10 ds) ≡ ds) whole (digits_front digits (length digits) (omega arith) all)

value_front : (digits : List ℕ) (count : ℕ) → count ≤ length digits → list_all is_digit digits ≡ true → digits_value 10 (take count digits) < 10 ^ count
value_front digits zero within all = omega arith
value_front digits (suc count) within all =
    let c = get_or digits count 0 in
    let passes : is_digit c ≡ true = AllPass-from_list_all is_digit digits all count 0 (omega arith) in
    let digit = digit_is c passes in
    let next : suc count ≡ count + 1 = omega arith in
    let value = digits_value_more 10 digits count (omega arith) in
    let power = pow-suc 10 count in
    let before = value_front digits count (omega arith) all in
    let here : digits_value 10 (take (count + 1) digits) < 10 ^ suc count = omega (arith, value, power, before, digit.0, digit.1, digit.2) in
    subst (λ (k : ℕ). digits_value 10 (take k digits) < 10 ^ suc count) (sym next) here

-- digits spell a number below the power of ten with as many zeros
pub value_below : (digits : List ℕ) → list_all is_digit digits ≡ true → digits_value 10 digits < 10 ^ length digits
value_below digits all =
    let whole = take_all (length digits) digits (omega arith) in
    subst (λ (ds : List ℕ). digits_value 10 ds < 10 ^ length digits) whole (value_front digits (length digits) (omega arith) all)
