-- The ISWC, the standard musical work code.
use Rattle.std.specs.Prelude.{ℕ, Bool, List, ◌∷◌, ◌++◌, Option, None, Result, Ok, Err, length, take, drop, slice_index, if◌then◌else◌, ◌==◌, ◌&&◌}
use Rattle.std.specs.List.{list_all}
use Rattle.work_ids.specs.Blanks.{is_blank_byte}
use Rattle.work_ids.specs.Characters.{is_digit}
use Rattle.work_ids.specs.CheckDigit.{is_check_digit}
use Rattle.work_ids.specs.Fields.{present}
use Rattle.work_ids.specs.declared.fault.IdFault.{IdFault}
use Rattle.work_ids.specs.declared.fault.IdFault.TheVariants.{Length, Character, CheckDigit}

-- a T and then digits alone (ISO 15707)
unfoldable pub has_iswc_form : List ℕ → Bool
has_iswc_form characters = slice_index characters 0 == 84 && list_all is_digit (drop 1 characters)

-- the eleventh character is the check digit of the nine digits behind the T (ISO 15707)
unfoldable pub has_right_check_digit : List ℕ → Bool
has_right_check_digit characters = is_check_digit (take 9 (drop 1 characters)) (slice_index characters 10)

-- an ISWC: a T, nine digits, and their check digit (ISO 15707)
abbrev pub is_iswc : List ℕ → Bool
is_iswc characters = length characters == 11 && has_iswc_form characters && has_right_check_digit characters

-- the ISWC that eleven characters are; where bytes are none, the least refusal that holds (ISO 15707)
unfoldable pub iswc_of : List ℕ → Result (List ℕ) IdFault
iswc_of bytes =
    if length bytes == 11 then (if has_iswc_form bytes then (if has_right_check_digit bytes then Ok bytes else Err CheckDigit) else Err Character) else Err Length

-- what a field of eleven bytes has: an ISWC, or none where all bytes are blanks (profile)
abbrev pub iswc_field_of : List ℕ → Result (Option (List ℕ)) IdFault
iswc_field_of field =
    if length field == 11 && list_all is_blank_byte field then Ok None else present (iswc_of field)

-- the printed form, as in T-034.524.680-1 (ISO 15707)
unfoldable pub printed : List ℕ → List ℕ
printed iswc =
    take 1 iswc ++ 45 ∷ (take 3 (drop 1 iswc) ++ 46 ∷ (take 3 (drop 4 iswc) ++ 46 ∷ (take 3 (drop 7 iswc) ++ 45 ∷ drop 10 iswc)))

-- a printed form has its hyphens and points at their places (ISO 15707)
unfoldable pub has_iswc_marks : List ℕ → Bool
has_iswc_marks text =
    slice_index text 1 == 45 && slice_index text 5 == 46 && slice_index text 9 == 46 && slice_index text 13 == 45

-- a printed form without its hyphens and points (ISO 15707)
unfoldable pub without_iswc_marks : List ℕ → List ℕ
without_iswc_marks text =
    take 1 text ++ take 3 (drop 2 text) ++ take 3 (drop 6 text) ++ take 3 (drop 10 text) ++ drop 14 text

-- the ISWC that a text of eleven characters, or of fifteen in the printed form, is; where it is none, the least refusal that holds (ISO 15707)
unfoldable pub iswc_of_text : List ℕ → Result (List ℕ) IdFault
iswc_of_text text =
    if length text == 15 then (if has_iswc_marks text then iswc_of (without_iswc_marks text) else Err Character) else iswc_of text
