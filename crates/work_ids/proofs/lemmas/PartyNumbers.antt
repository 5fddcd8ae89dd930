-- Party numbers that are filled with blanks.
use Rattle.std.proofs.Common.{◌≡◌, ℕ, ◌+◌, ◌-◌, ◌≤◌, Bool, true, false, cond, ◌||◌, not, List, [], ◌∷◌, length, drop, replicate, refl, arith, suc, eq-eqb}
use Rattle.std.specs.List.{list_all, prefix_len}
use Rattle.std.proofs.lemmas.List.{length-append, length-replicate}
use Rattle.work_ids.specs.Account.{is_trimmed_printable}
use Rattle.work_ids.specs.Blanks.{fill, is_blank_byte, trimmed, without_leading_blanks, without_trailing_blanks}
use Rattle.work_ids.specs.Characters.{is_printable}
use Rattle.work_ids.specs.PartyNumber.{begins_printed, is_party_number}
use Rattle.work_ids.proofs.lemmas.Trailing.{filled_pass}
use Rattle.std.proofs.lemmas.Bool.{and_parts, or_right}

-- a number with blanks behind it
pub number_filled : (number : List ℕ) → length number ≤ 9 → list_all is_printable number ≡ true → begins_printed number ≡ true → is_party_number (fill 9 number) ≡ true
unfolding is_party_number
number_filled [] room printable front = refl
number_filled (x ∷ xs) room printable front =
    let bytes : List ℕ = fill 9 (x ∷ xs) in
    let size : length bytes ≡ 9 = omega (arith, length-append (x ∷ xs) (replicate (9 - length (x ∷ xs)) 32), length-replicate {A = ℕ} (9 - length (x ∷ xs)) 32) in
    let all = filled_pass is_printable 9 (x ∷ xs) refl printable in
    rw (eq-eqb (length bytes) 9 size, all) (or_right (list_all is_blank_byte bytes) (not (is_blank_byte x)) front)

front_step : (x : ℕ) (xs : List ℕ) (blank : Bool) → is_blank_byte x ≡ blank → begins_printed (without_leading_blanks xs) ≡ true → begins_printed (drop (cond blank (1 + prefix_len is_blank_byte xs) 0) (x ∷ xs)) ≡ true
front_step x xs true e h = let n : 1 + prefix_len is_blank_byte xs ≡ suc (prefix_len is_blank_byte xs) = omega arith in rw n h
front_step x xs false e h = rw e refl

front_cut : (xs : List ℕ) → begins_printed (without_leading_blanks xs) ≡ true
front_cut [] = refl
front_cut (x ∷ xs) = front_step x xs (is_blank_byte x) refl (front_cut xs)

-- bytes without blanks at their ends begin with none
pub begins_printed_of_trimmed : (bytes : List ℕ) → begins_printed (trimmed bytes) ≡ true
unfolding trimmed
begins_printed_of_trimmed bytes = front_cut (without_trailing_blanks bytes)

pub printable_of : (bytes : List ℕ) → is_trimmed_printable bytes ≡ true → list_all is_printable bytes ≡ true
unfolding is_trimmed_printable
printable_of bytes h = (and_parts _ _ (and_parts _ _ h).0).0

pub front_of : (bytes : List ℕ) → is_trimmed_printable bytes ≡ true → begins_printed bytes ≡ true
unfolding is_trimmed_printable
front_of [] h = refl
front_of (x ∷ xs) h = (and_parts (list_all is_printable (x ∷ xs)) (not (is_blank_byte x)) (and_parts _ _ h).0).1
