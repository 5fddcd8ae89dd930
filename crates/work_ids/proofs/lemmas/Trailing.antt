-- What stands where the blanks at the end are, and what is left without them.
use Rattle.std.proofs.Common.{◌≡◌, ℕ, ◌+◌, ◌-◌, ◌<◌, ◌≤◌, Bool, true, false, List, [], ◌∷◌, ◌++◌, length, take, drop, replicate, reverse, get_or, refl, sym, ap, ◌∙◌, arith, suc, zero, eqb-true, inl, inr}
use Rattle.std.specs.List.{list_all, suffix_len}
use Rattle.std.proofs.lemmas.List.{get_or-reverse, get_or-drop, take-append-drop, length-take, length-drop, length-reverse}
use Rattle.std.proofs.lemmas.Bool.{cases_lt}
use Rattle.std.proofs.lemmas.List.Sums.{prefix_len_passes, prefix_len_stops, suffix_len-le-length}
use Rattle.std.proofs.lemmas.List.Folds.{list_all-append}
use Rattle.work_ids.specs.Blanks.{is_blank_byte, without_trailing_blanks, fill}
use Rattle.std.proofs.lemmas.Bool.{and_parts}

-- how many bytes are left without the blanks at the end
abbrev pub left : List ℕ → ℕ
left xs = length xs - suffix_len is_blank_byte xs

passes_at : (xs : List ℕ) (j k : ℕ) → j < suffix_len is_blank_byte xs → j < length xs → length xs - 1 - j ≡ k → is_blank_byte (get_or xs k 0) ≡ true
passes_at xs j k below within same =
    ap is_blank_byte (sym (get_or-reverse xs j 0 within ∙ ap (λ (i : ℕ). get_or xs i 0) same)) ∙ prefix_len_passes is_blank_byte (reverse xs) j 0 below

-- behind what is left there are blanks
pub blank_behind : (xs : List ℕ) (k : ℕ) → left xs ≤ k → k < length xs → is_blank_byte (get_or xs k 0) ≡ true
blank_behind xs k h w =
    let some = suffix_len-le-length is_blank_byte xs in
    passes_at xs (length xs - 1 - k) k (omega arith) (omega arith) (omega arith)

-- what is left ends with no blank
pub last_left : (xs : List ℕ) → 0 < left xs → is_blank_byte (get_or xs (left xs - 1) 0) ≡ false
last_left xs some =
    let n = suffix_len is_blank_byte xs in
    let whole : length (reverse xs) ≡ length xs = length-reverse xs in
    let stops = prefix_len_stops is_blank_byte (reverse xs) 0 (omega arith) in
    let within : n < length xs = omega arith in
    let place : length xs - 1 - n ≡ left xs - 1 = omega arith in
    ap is_blank_byte (sym (get_or-reverse xs n 0 within ∙ ap (λ (i : ℕ). get_or xs i 0) place)) ∙ stops

-- blanks alone, each seen by its index
pub replicated : (xs : List ℕ) → ((k : ℕ) → k < length xs → is_blank_byte (get_or xs k 0) ≡ true) → xs ≡ replicate (length xs) 32
replicated [] each = refl
replicated (x ∷ xs) each =
    let head : x ≡ 32 = eqb-true x 32 (each 0 (omega arith)) in
    let rest = replicated xs (λ k h. each (suc k) (omega arith)) in
    cc

-- the blanks at the end
pub blanks_behind : (xs : List ℕ) → drop (left xs) xs ≡ replicate (length xs - left xs) 32
blanks_behind xs =
    let n : length (drop (left xs) xs) ≡ length xs - left xs = length-drop (left xs) xs in
    replicated (drop (left xs) xs) (λ k h. ap is_blank_byte (get_or-drop (left xs) xs k 0) ∙ blank_behind xs (left xs + k) (omega arith) (omega arith))
    ∙ ap (λ (m : ℕ). replicate m 32) n

pub length-left : (xs : List ℕ) → length (without_trailing_blanks xs) ≡ left xs
length-left xs = omega (arith, length-take (left xs) xs)

-- the bytes without the blanks at their end, filled again
pub filled_again : (width : ℕ) (xs : List ℕ) → length xs ≡ width → fill width (without_trailing_blanks xs) ≡ xs
filled_again width xs h =
    let n : width - length (without_trailing_blanks xs) ≡ length xs - left xs = omega (arith, length-left xs) in
    ap (λ (m : ℕ). take (left xs) xs ++ replicate m 32) n ∙ ap (λ (ys : List ℕ). take (left xs) xs ++ ys) (sym (blanks_behind xs)) ∙ take-append-drop (left xs) xs

-- a test that a byte passes is passed by copies of it
pub copies_pass : (test : ℕ → Bool) (byte : ℕ) → test byte ≡ true → (n : ℕ) → list_all test (replicate n byte) ≡ true
copies_pass test byte here zero = refl
copies_pass test byte here (suc n) = let rest = copies_pass test byte here n in cc

-- a test that all bytes pass is passed by those that are left
pub left_pass : (test : ℕ → Bool) (xs : List ℕ) → list_all test xs ≡ true → list_all test (without_trailing_blanks xs) ≡ true
left_pass test xs h =
    (and_parts (list_all test (take (left xs) xs)) (list_all test (drop (left xs) xs)) (sym (list_all-append test (take (left xs) xs) (drop (left xs) xs)) ∙ ap (list_all test) (take-append-drop (left xs) xs) ∙ h)).0

-- a test that all bytes and a blank pass is passed by the bytes with blanks behind them
pub filled_pass : (test : ℕ → Bool) (width : ℕ) (xs : List ℕ) → test 32 ≡ true → list_all test xs ≡ true → list_all test (fill width xs) ≡ true
filled_pass test width xs here h =
    list_all-append test xs (replicate (width - length xs) 32) ∙ (let rest = copies_pass test 32 here (width - length xs) in cc)

-- bytes that are not all blanks have some left
pub some_left : (xs : List ℕ) → list_all is_blank_byte xs ≡ false → 0 < left xs
some_left xs other =
    elim (cases_lt 0 (left xs)) [
      | inl some ↦ some
      | inr none ↦
          let nothing : left xs ≡ 0 = omega arith in
          let whole : drop (left xs) xs ≡ xs = ap (λ (n : ℕ). drop n xs) nothing in
          let all = copies_pass is_blank_byte 32 refl (length xs - left xs) in
          absurd (cc (sym whole ∙ blanks_behind xs))
    ]
