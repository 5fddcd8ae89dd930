-- Printed ISRCs, read back.
use Rattle.std.proofs.Common.{◌≡◌, ℕ, Bool, true, false, ◌&&◌, ◌++◌, eqb, List, [], ◌∷◌, length, map, take, drop, Ok, Err, refl, sym, subst, eqb-true, ne_eqb, arith}
use Rattle.std.specs.List.{list_all}
use Rattle.std.proofs.lemmas.Bool.Decides.{nat_tests}
use Rattle.std.proofs.lemmas.List.{map-append, length-map}
use Rattle.work_ids.specs.Isrc.{is_isrc, has_isrc_form, isrc_of, isrc_of_text, has_isrc_marks, without_isrc_marks, printed_isrc}
use Rattle.work_ids.specs.Characters.{is_capital, is_digit, is_capital_or_digit, capital}
use Rattle.work_ids.specs.declared.fault.IdFault.TheVariants.{Length}
use Rattle.work_ids.proofs.lemmas.Marks.{is_written}
use Rattle.std.proofs.lemmas.Bool.{and_parts}

letter_stays : (x : ℕ) → is_capital x ≡ true → capital x ≡ x
letter_stays x h = grind (arith, nat_tests)

digit_stays : (x : ℕ) → is_digit x ≡ true → capital x ≡ x
digit_stays x h = grind (arith, nat_tests)

either_stays : (x : ℕ) → is_capital_or_digit x ≡ true → capital x ≡ x
either_stays x h = grind (arith, nat_tests)

all_stay : (test : ℕ → Bool) → ((x : ℕ) → test x ≡ true → capital x ≡ x) → (xs : List ℕ) → list_all test xs ≡ true → map capital xs ≡ xs
all_stay test stays [] h = refl
all_stay test stays (x ∷ xs) h =
    let here = stays x (and_parts (test x) (list_all test xs) h).0 in
    let rest = all_stay test stays xs (and_parts (test x) (list_all test xs) h).1 in
    cc

parts : (xs : List ℕ) → length xs ≡ 12 → xs ≡ take 2 xs ++ (take 3 (drop 2 xs) ++ drop 5 xs)
parts xs h = subst (λ (ys : List ℕ). ys ≡ take 2 ys ++ (take 3 (drop 2 ys) ++ drop 5 ys)) (sym (is_written 12 xs h)) refl

isrc_stays : (xs : List ℕ) → length xs ≡ 12 → has_isrc_form xs ≡ true → map capital xs ≡ xs
unfolding has_isrc_form
isrc_stays xs n h =
    let all = and_parts (list_all is_capital (take 2 xs) && list_all is_capital_or_digit (take 3 (drop 2 xs))) (list_all is_digit (drop 5 xs)) h in
    let front = and_parts (list_all is_capital (take 2 xs)) (list_all is_capital_or_digit (take 3 (drop 2 xs))) all.0 in
    let p = all_stay is_capital letter_stays (take 2 xs) front.0 in
    let q = all_stay is_capital_or_digit either_stays (take 3 (drop 2 xs)) front.1 in
    let r = all_stay is_digit digit_stays (drop 5 xs) all.1 in
    let whole = parts xs n in
    let cut = map-append capital (take 2 xs) (take 3 (drop 2 xs) ++ drop 5 xs) in
    let more = map-append capital (take 3 (drop 2 xs)) (drop 5 xs) in
    cc

pub isrc-length : (xs : List ℕ) → is_isrc xs ≡ true → length xs ≡ 12
isrc-length xs h = eqb-true (length xs) 12 (and_parts (eqb (length xs) 12) (has_isrc_form xs) h).0

isrc_of_is : (xs : List ℕ) → is_isrc xs ≡ true → isrc_of xs ≡ Ok xs
unfolding isrc_of
isrc_of_is xs h =
    let parts = and_parts (eqb (length xs) 12) (has_isrc_form xs) h in
    rw (parts.0, parts.1) refl

isrc_text_length : (xs : List ℕ) → length xs ≡ 12 → eqb (length (printed_isrc xs)) 15 ≡ true
unfolding printed_isrc
isrc_text_length xs h = subst (λ (ys : List ℕ). eqb (length (printed_isrc ys)) 15 ≡ true) (sym (is_written 12 xs h)) refl

isrc_text_marks : (xs : List ℕ) → length xs ≡ 12 → has_isrc_marks (printed_isrc xs) ≡ true
unfolding printed_isrc has_isrc_marks
isrc_text_marks xs h = subst (λ (ys : List ℕ). has_isrc_marks (printed_isrc ys) ≡ true) (sym (is_written 12 xs h)) refl

isrc_text_rest : (xs : List ℕ) → length xs ≡ 12 → without_isrc_marks (printed_isrc xs) ≡ xs
unfolding printed_isrc without_isrc_marks
isrc_text_rest xs h = subst (λ (ys : List ℕ). without_isrc_marks (printed_isrc ys) ≡ ys) (sym (is_written 12 xs h)) refl

pub isrc_reads_back : (xs text : List ℕ) → is_isrc xs ≡ true → text ≡ printed_isrc xs → isrc_of_text text ≡ Ok xs
unfolding isrc_of_text
isrc_reads_back xs text h e =
    let n = isrc-length xs h in
    let stays = isrc_stays xs n (and_parts (eqb (length xs) 12) (has_isrc_form xs) h).1 in
    rw (e, isrc_text_length xs n, isrc_text_marks xs n, isrc_text_rest xs n, stays) (isrc_of_is xs h)

pub no_isrc_length : (text : List ℕ) → (length text ≡ 15 → ⊥) → (length text ≡ 12 → ⊥) → Err Length ≡ isrc_of_text text
unfolding isrc_of_text isrc_of
no_isrc_length text h k =
    let a : eqb (length text) 15 ≡ false = ne_eqb (length text) 15 h in
    let b : eqb (length (map capital text)) 12 ≡ false = rw length-map (ne_eqb (length text) 12 k) in
    rw (a, b) refl
