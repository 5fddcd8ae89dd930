-- Numbers as texts and orders spell them; they may be none.
use Rattle.std.specs.Prelude.{ℕ, ◌≡◌, ◌≤◌, Bool, List, ◌∷◌, ◌++◌, ◌&&◌, ◌==◌, Option, Some, None, length, take, drop, slice_index, if◌then◌else◌}
use Rattle.std.specs.List.{list_all}
use Rattle.std.specs.Str.Parse.{digits_value}
use Rattle.work_ids.specs.Characters.{is_digit}
use Rattle.work_ids.specs.Digits.{last_digits}
use Rattle.work_ids.specs.Segments.{transmission_number_in}
use Rattle.work_ids.specs.declared.segment.Segment.TheVariants.{Plain as PlainSegment, Year}
use Rattle.work_ids.specs.declared.spelled_number.SpelledNumber.{SpelledNumber}
use Rattle.work_ids.specs.declared.spelled_number.SpelledNumber.TheVariants.{Plain, Dated}

-- the text of a number of a year: the last two digits of the year, a hyphen and four digits, as in 26-0001 (profile)
abbrev pub dated_text : ℕ → ℕ → List ℕ
dated_text year sequence = last_digits 2 year ++ 45 ∷ last_digits 4 sequence

-- two digits, a hyphen and four digits (profile)
unfoldable pub is_dated_text : List ℕ → Bool
is_dated_text text =
    length text == 7 && list_all is_digit (take 2 text) && slice_index text 2 == 45 && list_all is_digit (take 4 (drop 3 text))

-- the year and the number that two digits, a hyphen and four digits spell (profile)
unfoldable pub dated_in_text : List ℕ → Option SpelledNumber
dated_in_text text =
    if is_dated_text text then Some (Dated (digits_value 10 (take 2 text)) (digits_value 10 (take 4 (drop 3 text)))) else None

-- the text of a number of 0 to 9,999 of a year of 00 to 99
pub record IsDatedText (year sequence : ℕ) (text : List ℕ) : Type 0 where
  pub year_is : year ≤ 99
  pub sequence_is : sequence ≤ 9999
  pub text_is : text ≡ dated_text year sequence

-- the number that is spelled, where it is within the limits (profile)
abbrev pub transmission_number_spelled : SpelledNumber → Option ℕ
transmission_number_spelled (Plain number) = transmission_number_in PlainSegment number
transmission_number_spelled (Dated year sequence) = transmission_number_in (Year year) sequence
