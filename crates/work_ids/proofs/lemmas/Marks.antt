-- Printed forms, written out and read back.
use Rattle.std.proofs.Common.{◌≡◌, ℕ, true, ◌&&◌, eqb, List, length, map, get_or, Ok, refl, sym, subst, eqb-true}
use Rattle.std.specs.List.{range_with_len}
use Rattle.std.proofs.lemmas.List.FromFn.{fill_by_all}
use Rattle.work_ids.specs.Iswc.{is_iswc, has_iswc_form, has_right_check_digit, iswc_of, iswc_of_text, has_iswc_marks, without_iswc_marks, printed}
use Rattle.std.proofs.lemmas.Bool.{and_parts}

-- a list, element by element
abbrev pub written : ℕ → List ℕ → List ℕ
written n xs = map (λ k. get_or xs k 0) (range_with_len 0 n)

pub is_written : (n : ℕ) (xs : List ℕ) → length xs ≡ n → xs ≡ written n xs
is_written n xs h = fill_by_all (λ k. get_or xs k 0) xs n 0 h (λ k _. refl)

pub iswc-length : (xs : List ℕ) → is_iswc xs ≡ true → length xs ≡ 11
iswc-length xs h =
    eqb-true (length xs) 11 (and_parts (eqb (length xs) 11) (has_iswc_form xs) (and_parts (eqb (length xs) 11 && has_iswc_form xs) (has_right_check_digit xs) h).0).0

iswc_of_is : (xs : List ℕ) → is_iswc xs ≡ true → iswc_of xs ≡ Ok xs
unfolding iswc_of
iswc_of_is xs h =
    let all = and_parts (eqb (length xs) 11 && has_iswc_form xs) (has_right_check_digit xs) h in
    let front = and_parts (eqb (length xs) 11) (has_iswc_form xs) all.0 in
    rw (front.0, front.1, all.1) refl

iswc_text_length : (xs : List ℕ) → length xs ≡ 11 → eqb (length (printed xs)) 15 ≡ true
unfolding printed
iswc_text_length xs h = subst (λ (ys : List ℕ). eqb (length (printed ys)) 15 ≡ true) (sym (is_written 11 xs h)) refl

iswc_text_marks : (xs : List ℕ) → length xs ≡ 11 → has_iswc_marks (printed xs) ≡ true
unfolding printed has_iswc_marks
iswc_text_marks xs h = subst (λ (ys : List ℕ). has_iswc_marks (printed ys) ≡ true) (sym (is_written 11 xs h)) refl

iswc_text_rest : (xs : List ℕ) → length xs ≡ 11 → without_iswc_marks (printed xs) ≡ xs
unfolding printed without_iswc_marks
iswc_text_rest xs h = subst (λ (ys : List ℕ). without_iswc_marks (printed ys) ≡ ys) (sym (is_written 11 xs h)) refl

pub iswc_reads_back : (xs text : List ℕ) → is_iswc xs ≡ true → text ≡ printed xs → iswc_of_text text ≡ Ok xs
unfolding iswc_of_text
iswc_reads_back xs text h e =
    let n = iswc-length xs h in
    rw (e, iswc_text_length xs n, iswc_text_marks xs n, iswc_text_rest xs n) (iswc_of_is xs h)
