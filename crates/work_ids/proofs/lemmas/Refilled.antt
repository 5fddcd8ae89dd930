-- What is filled with blanks is read back without them.
use Rattle.std.proofs.Common.{◌≡◌, ℕ, ◌-◌, ◌<◌, ◌≤◌, Bool, true, false, List, length, take, replicate, get_or, Ok, refl, ap, ◌∙◌, arith, le-leb}
use Rattle.std.specs.List.{list_all, suffix_len}
use Rattle.std.proofs.lemmas.List.{length-append, length-replicate, get_or_append_left, get_or-append_right, get_or-replicate, take_at, take_all, get_or-take}
use Rattle.std.proofs.lemmas.List.Sums.{suffix_len_is}
use Rattle.std.proofs.lemmas.List.Folds.{list_all_at}
use Rattle.std.proofs.lemmas.Bool.Decides.{nat_tests}
use Rattle.work_ids.specs.Blanks.{fill, is_blank_byte, without_trailing_blanks}
use Rattle.work_ids.specs.Characters.{is_capital_or_digit, is_printable}
use Rattle.work_ids.specs.Reporter.{reporter_of}
use Rattle.work_ids.specs.WorkNumber.{work_number_of}
use Rattle.work_ids.proofs.lemmas.Trailing.{left, last_left, length-left}

-- bytes that end with no blank are what is left once they are filled
cut_again : (width : ℕ) (xs : List ℕ) → length xs ≤ width → is_blank_byte (get_or xs (length xs - 1) 0) ≡ false → 0 < length xs → without_trailing_blanks (fill width xs) ≡ xs
cut_again width xs room last some =
    let n = length xs in
    let blanks : List ℕ = replicate (width - n) 32 in
    let size = length-append xs blanks in
    let count = length-replicate {A = ℕ} (width - n) 32 in
    let behind : (k : ℕ) → n ≤ k → k < length (fill width xs) → is_blank_byte (get_or (fill width xs) k 0) ≡ true = λ k h w. ap is_blank_byte (get_or-append_right xs blanks n k 0 refl h ∙ get_or-replicate (width - n) (k - n) 32 0 (omega arith)) in
    let front : 0 < n → is_blank_byte (get_or (fill width xs) (n - 1) 0) ≡ false = λ h. ap is_blank_byte (get_or_append_left xs blanks 0 (n - 1) (omega arith)) ∙ last in
    let cut = suffix_len_is is_blank_byte (fill width xs) n 0 (omega arith) behind front in
    let kept : length (fill width xs) - suffix_len is_blank_byte (fill width xs) ≡ n = omega arith in
    ap (λ (m : ℕ). take m (fill width xs)) kept ∙ take_at xs blanks n refl

-- bytes that end with no blank are what is left of them
uncut : (xs : List ℕ) → is_blank_byte (get_or xs (length xs - 1) 0) ≡ false → without_trailing_blanks xs ≡ xs
uncut xs last =
    let none = suffix_len_is is_blank_byte xs (length xs) 0 (omega arith) (λ k h w. absurd (omega arith)) (λ h. last) in
    let whole : length xs ≤ length xs - suffix_len is_blank_byte xs = omega arith in
    take_all (length xs - suffix_len is_blank_byte xs) xs whole

-- what is left ends with no blank
pub left_last : (bytes : List ℕ) → 0 < length (without_trailing_blanks bytes) → is_blank_byte (get_or (without_trailing_blanks bytes) (length (without_trailing_blanks bytes) - 1) 0) ≡ false
left_last bytes some =
    let n : length (without_trailing_blanks bytes) - 1 ≡ left bytes - 1 = ap (λ (m : ℕ). m - 1) (length-left bytes) in
    let any : 0 < left bytes = omega (arith, length-left bytes) in
    ap (λ (m : ℕ). is_blank_byte (get_or (without_trailing_blanks bytes) m 0)) n
    ∙ ap is_blank_byte (get_or-take (left bytes) bytes (left bytes - 1) 0 (omega arith))
    ∙ last_left bytes any

-- a work number that is filled is read back
pub work_number_back : (bytes number : List ℕ) → number ≡ without_trailing_blanks bytes → 0 < length number → length number ≤ 14 → list_all is_printable number ≡ true → work_number_of (without_trailing_blanks (fill 14 number)) ≡ Ok (fill 14 number)
work_number_back bytes number is some room printable =
    let last : is_blank_byte (get_or number (length number - 1) 0) ≡ false = rw is (left_last bytes (rw is at some)) in
    let low = le-leb 1 (length number) some in
    let high = le-leb (length number) 14 room in
    rw (cut_again 14 number room last some, uncut number last, low, high, printable) refl

-- a test that fails only where another fails passes where that passes
passed : (a b : Bool) → (a ≡ false → b ≡ false) → b ≡ true → a ≡ true
passed true b h all = refl
passed false b h all = cc (h refl, all)

-- a capital or a digit is no blank
no_blank : (byte : ℕ) → is_capital_or_digit byte ≡ true → is_blank_byte byte ≡ false
no_blank byte h = grind (arith, nat_tests)

-- a reporter that is filled is read back
pub reporter_back : (bytes : List ℕ) → 0 < length bytes → length bytes ≤ 20 → list_all is_capital_or_digit bytes ≡ true → reporter_of (without_trailing_blanks (fill 20 bytes)) ≡ Ok (fill 20 bytes)
reporter_back bytes some room letters =
    let within : length bytes - 1 < length bytes = omega arith in
    let letter = passed (is_capital_or_digit (get_or bytes (length bytes - 1) 0)) (list_all is_capital_or_digit bytes) (list_all_at is_capital_or_digit bytes (length bytes - 1) 0 within) letters in
    let last = no_blank (get_or bytes (length bytes - 1) 0) letter in
    let low = le-leb 1 (length bytes) some in
    let high = le-leb (length bytes) 20 room in
    rw (cut_again 20 bytes room last some, low, high, letters) refl
