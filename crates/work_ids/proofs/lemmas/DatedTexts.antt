-- Texts of numbers of a year, written out and read back.
use Rattle.std.proofs.Common.{◌≡◌, ℕ, ◌<◌, ◌≤◌, ◌^◌, Bool, true, false, ◌&&◌, ◌==◌, List, [], ◌∷◌, ◌++◌, length, take, drop, get_or, slice_index, Option, Some, None, refl, sym, ap, subst, ◌∙◌, eqb-true, arith, ◌↔◌}
use Rattle.std.specs.List.{list_all}
use Rattle.std.specs.Str.Parse.{digits_value}
use Rattle.work_ids.specs.Characters.{is_digit}
use Rattle.work_ids.specs.Digits.{last_digits}
use Rattle.work_ids.specs.SpelledNumber.{IsDatedText, dated_in_text, dated_text, is_dated_text}
use Rattle.work_ids.specs.declared.spelled_number.SpelledNumber.{SpelledNumber}
use Rattle.work_ids.specs.declared.spelled_number.SpelledNumber.TheVariants.{Dated}
use Rattle.work_ids.proofs.lemmas.Joined.{four_true}
use Rattle.work_ids.proofs.lemmas.LastDigits.{are_last_digits, last_digits_of, value_below, value_of_last_digits}
use Rattle.work_ids.proofs.lemmas.Marks.{is_written}

-- what stands in a text of two digits, a hyphen and four digits
pub record HasDatedForm (text : List ℕ) : Type 0 where
  pub long : length text ≡ 7
  pub year : list_all is_digit (take 2 text) ≡ true
  pub hyphen : slice_index text 2 ≡ 45
  pub sequence : list_all is_digit (take 4 (drop 3 text)) ≡ true
  pub two_long : length (take 2 text) ≡ 2
  pub four_long : length (take 4 (drop 3 text)) ≡ 4

two_of : (text : List ℕ) → length text ≡ 7 → length (take 2 text) ≡ 2
two_of text h = subst (λ (ts : List ℕ). length (take 2 ts) ≡ 2) (sym (is_written 7 text h)) refl

four_of : (text : List ℕ) → length text ≡ 7 → length (take 4 (drop 3 text)) ≡ 4
four_of text h = subst (λ (ts : List ℕ). length (take 4 (drop 3 ts)) ≡ 4) (sym (is_written 7 text h)) refl

pub dated_form : (text : List ℕ) → is_dated_text text ≡ true → HasDatedForm text
unfolding is_dated_text
dated_form text h =
    let each = four_true (length text == 7) (list_all is_digit (take 2 text)) (slice_index text 2 == 45) (list_all is_digit (take 4 (drop 3 text))) h in
    let long = eqb-true (length text) 7 each.0 in
    record {
      long = long;
      year = each.1;
      hyphen = eqb-true (slice_index text 2) 45 each.2;
      sequence = each.3;
      two_long = two_of text long;
      four_long = four_of text long;
    }

parts : (text : List ℕ) → length text ≡ 7 → text ≡ take 2 text ++ (slice_index text 2 ∷ take 4 (drop 3 text))
parts text h = subst (λ (ts : List ℕ). ts ≡ take 2 ts ++ (slice_index ts 2 ∷ take 4 (drop 3 ts))) (sym (is_written 7 text h)) refl

-- what a text of that form spells is written as that text
dated_text_is : (text : List ℕ) → HasDatedForm text → IsDatedText (digits_value 10 (take 2 text)) (digits_value 10 (take 4 (drop 3 text))) text
dated_text_is text form =
    let first = take 2 text in
    let second = take 4 (drop 3 text) in
    let year_written : last_digits 2 (digits_value 10 first) ≡ first = subst (λ (n : ℕ). last_digits n (digits_value 10 first) ≡ first) form.two_long (last_digits_of first form.year) in
    let sequence_written : last_digits 4 (digits_value 10 second) ≡ second = subst (λ (n : ℕ). last_digits n (digits_value 10 second) ≡ second) form.four_long (last_digits_of second form.sequence) in
    let year_below : digits_value 10 first < 10 ^ 2 = subst (λ (n : ℕ). digits_value 10 first < 10 ^ n) form.two_long (value_below first form.year) in
    let sequence_below : digits_value 10 second < 10 ^ 4 = subst (λ (n : ℕ). digits_value 10 second < 10 ^ n) form.four_long (value_below second form.sequence) in
    record {
      year_is = omega (arith, year_below);
      sequence_is = omega (arith, sequence_below);
      text_is =
          parts text form.long
          ∙ ap (λ (b : ℕ). first ++ (b ∷ second)) form.hyphen
          ∙ ap (λ (front : List ℕ). front ++ (45 ∷ second)) (sym year_written)
          ∙ ap (λ (end : List ℕ). last_digits 2 (digits_value 10 first) ++ (45 ∷ end)) (sym sequence_written);
    }

read_back : (a b c d e f : ℕ) → list_all is_digit (a ∷ b ∷ []) ≡ true → list_all is_digit (c ∷ d ∷ e ∷ f ∷ []) ≡ true → dated_in_text (a ∷ b ∷ 45 ∷ c ∷ d ∷ e ∷ f ∷ []) ≡ Some (Dated (digits_value 10 (a ∷ b ∷ [])) (digits_value 10 (c ∷ d ∷ e ∷ f ∷ [])))
unfolding dated_in_text is_dated_text
read_back a b c d e f first second = rw (first, second) refl

read_digits : (year sequence : ℕ) → dated_in_text (dated_text year sequence) ≡ Some (Dated (digits_value 10 (last_digits 2 year)) (digits_value 10 (last_digits 4 sequence)))
unfolding last_digits
read_digits year sequence = read_back _ _ _ _ _ _ (are_last_digits 2 year) (are_last_digits 4 sequence)

-- the text of a number of a year is read as that number
pub dated_read_back : (year sequence : ℕ) → year ≤ 99 → sequence ≤ 9999 → dated_in_text (dated_text year sequence) ≡ Some (Dated year sequence)
dated_read_back year sequence y s =
    let year_value = value_of_last_digits 2 year (omega (arith, y)) in
    let sequence_value = value_of_last_digits 4 sequence (omega (arith, s)) in
    read_digits year sequence
    ∙ ap (λ (n : ℕ). Some (Dated n (digits_value 10 (last_digits 4 sequence)))) year_value
    ∙ ap (λ (n : ℕ). Some (Dated year n)) sequence_value

-- the text, character by character
pub text_written : (year_digits digits : List ℕ) (year sequence : ℕ) → year_digits ≡ last_digits 2 year → digits ≡ last_digits 4 sequence → dated_text year sequence ≡ get_or year_digits 0 0 ∷ get_or year_digits 1 0 ∷ 45 ∷ get_or digits 0 0 ∷ get_or digits 1 0 ∷ get_or digits 2 0 ∷ get_or digits 3 0 ∷ []
unfolding last_digits
text_written year_digits digits year sequence e f = rw (e, f) refl

-- a text without that form spells none
pub no_dated : (text : List ℕ) → is_dated_text text ≡ false → None ≡ dated_in_text text
unfolding dated_in_text
no_dated text h = rw h refl

-- a text of that form spells its digits
pub dated_is : (text : List ℕ) → is_dated_text text ≡ true → (year sequence : ℕ) → year ≡ digits_value 10 (take 2 text) → sequence ≡ digits_value 10 (take 4 (drop 3 text)) → Some (Dated year sequence) ≡ dated_in_text text
unfolding dated_in_text
dated_is text h year sequence y s = rw (h, y, s) refl

read_as : (text : List ℕ) (formed : Bool) → is_dated_text text ≡ formed → (year sequence : ℕ) → dated_in_text text ≡ Some (Dated year sequence) → IsDatedText year sequence text
read_as text true formed year sequence read =
    let form = dated_text_is text (dated_form text formed) in
    let same = dated_is text formed _ _ refl refl ∙ read in
    let y : digits_value 10 (take 2 text) ≡ year = cc in
    let s : digits_value 10 (take 4 (drop 3 text)) ≡ sequence = cc in
    subst (λ (n : ℕ). IsDatedText year n text) s (subst (λ (n : ℕ). IsDatedText n (digits_value 10 (take 4 (drop 3 text))) text) y form)
read_as text false formed year sequence read = let same = no_dated text formed ∙ read in absurd (cc)

-- a text is read as a number of a year exactly where it is the text of that number
pub dated_exact : (text : List ℕ) (read : Option SpelledNumber) → read ≡ dated_in_text text → (year sequence : ℕ) → (read ≡ Some (Dated year sequence)) ↔ IsDatedText year sequence text
dated_exact text read is year sequence = (
  (λ (e : read ≡ Some (Dated year sequence)). read_as text (is_dated_text text) refl year sequence (sym is ∙ e)),
  (λ (w : IsDatedText year sequence text). is ∙ ap dated_in_text w.text_is ∙ dated_read_back year sequence w.year_is w.sequence_is),
)
