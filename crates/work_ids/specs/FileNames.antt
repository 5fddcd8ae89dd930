-- Names of a sender's files, in which a number of a year stands (profile).
use Rattle.std.specs.Prelude.{ℕ, ◌≡◌, ◌-◌, Bool, true, List, [], ◌∷◌, ◌++◌, ◌&&◌, ◌||◌, ◌==◌, Option, Some, None, codes, length, map, take, drop, slice_index, if◌then◌else◌}
use Rattle.std.specs.List.{list_all}
use Rattle.std.specs.Str.{bytes_eq}
use Rattle.std.specs.Str.Parse.{digits_value}
use Rattle.work_ids.specs.Characters.{capital, is_capital_or_digit, is_digit}
use Rattle.work_ids.specs.Digits.{last_digits}
use Rattle.work_ids.specs.Segments.{transmission_number_in}
use Rattle.work_ids.specs.declared.segment.Segment.TheVariants.{Year}

-- the code of a sender: two or three of A-Z and 0-9 (profile)
abbrev pub is_sender_code : List ℕ → Bool
is_sender_code code = (length code == 2 || length code == 3) && list_all is_capital_or_digit code

-- the last digit of a version: of 2.1 or of 2.2 (profile)
abbrev pub is_version_digit : ℕ → Bool
is_version_digit digit = digit == 49 || digit == 50

-- the end of a name: _, the three digits of the society, which receives the file, and .V21 or .V22 (profile)
abbrev pub name_end : ℕ → ℕ → List ℕ
name_end society version = 95 ∷ (last_digits 3 society ++ codes ".V2" ++ version ∷ [])

-- a name in capitals: CW, the last two digits of the year, four digits of the number, the sender's code and the end, as in CW260001EXA_900.V22 (profile)
abbrev pub file_name : ℕ → ℕ → List ℕ → List ℕ → List ℕ
file_name year sequence sender end = codes "CW" ++ last_digits 2 year ++ last_digits 4 sequence ++ sender ++ end

-- a name of the file with a number, sent to a society; small letters count as capitals (profile)
pub record IsNameOf (society number : ℕ) (name : List ℕ) : Type 0 where
  pub year : ℕ
  pub sequence : ℕ
  pub sender : List ℕ
  pub version : ℕ
  pub number_is : transmission_number_in (Year year) sequence ≡ Some number
  pub sender_is : is_sender_code sender ≡ true
  pub version_is : is_version_digit version ≡ true
  pub name_is : map capital name ≡ file_name year sequence sender (name_end society version)

-- eight bytes that end a name sent to a society (profile)
unfoldable pub is_name_end : ℕ → List ℕ → Bool
is_name_end society bytes =
    slice_index bytes 0 == 95 && bytes_eq (take 3 (drop 1 bytes)) (last_digits 3 society)
    && bytes_eq (take 3 (drop 4 bytes)) (codes ".V2") && is_version_digit (slice_index bytes 7)

-- a name in capitals, sent to a society: CW, two digits and four, the sender's code, and its end (profile)
unfoldable pub is_file_name : ℕ → List ℕ → Bool
is_file_name society name =
    (length name == 18 || length name == 19) && bytes_eq (take 2 name) (codes "CW")
    && list_all is_digit (take 2 (drop 2 name)) && list_all is_digit (take 4 (drop 4 name))
    && list_all is_capital_or_digit (take (length name - 16) (drop 8 name)) && is_name_end society (drop (length name - 8) name)

-- the number in a name in capitals, where it is a file name
abbrev pub number_in_capitals : ℕ → List ℕ → Option ℕ
number_in_capitals society name =
    if is_file_name society name then transmission_number_in (Year (digits_value 10 (take 2 (drop 2 name)))) (digits_value 10 (take 4 (drop 4 name))) else None

-- the number in a name of a file sent to a society, none where it is no such name (profile)
unfoldable pub number_in_name : ℕ → List ℕ → Option ℕ
number_in_name society name = number_in_capitals society (map capital name)
