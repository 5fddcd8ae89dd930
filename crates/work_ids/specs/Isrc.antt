-- The ISRC, the standard recording code.
use Rattle.std.specs.Prelude.{ℕ, Bool, List, ◌∷◌, ◌++◌, Option, None, Result, Ok, Err, length, map, take, drop, slice_index, if◌then◌else◌, ◌==◌, ◌&&◌}
use Rattle.std.specs.List.{list_all}
use Rattle.work_ids.specs.Blanks.{is_blank_byte}
use Rattle.work_ids.specs.Characters.{is_capital, is_digit, is_capital_or_digit, capital}
use Rattle.work_ids.specs.Fields.{present}
use Rattle.work_ids.specs.declared.fault.IdFault.{IdFault}
use Rattle.work_ids.specs.declared.fault.IdFault.TheVariants.{Length, Character}

-- two letters, three letters or digits, and then digits alone (ISO 3901)
unfoldable pub has_isrc_form : List ℕ → Bool
has_isrc_form characters =
    list_all is_capital (take 2 characters) && list_all is_capital_or_digit (take 3 (drop 2 characters)) && list_all is_digit (drop 5 characters)

-- an ISRC: two letters, three letters or digits, and seven digits (ISO 3901)
abbrev pub is_isrc : List ℕ → Bool
is_isrc characters = length characters == 12 && has_isrc_form characters

-- the ISRC that twelve characters are; where bytes are none, the least refusal that holds (ISO 3901)
unfoldable pub isrc_of : List ℕ → Result (List ℕ) IdFault
isrc_of bytes = if length bytes == 12 then (if has_isrc_form bytes then Ok bytes else Err Character) else Err Length

-- what a field of twelve bytes has: an ISRC, or none where all bytes are blanks (profile)
abbrev pub isrc_field_of : List ℕ → Result (Option (List ℕ)) IdFault
isrc_field_of field =
    if length field == 12 && list_all is_blank_byte field then Ok None else present (isrc_of field)

-- the printed form, as in AT-ABC-26-00001 (ISO 3901)
unfoldable pub printed_isrc : List ℕ → List ℕ
printed_isrc isrc = take 2 isrc ++ 45 ∷ (take 3 (drop 2 isrc) ++ 45 ∷ (take 2 (drop 5 isrc) ++ 45 ∷ drop 7 isrc))

-- a printed form has its hyphens at their places (ISO 3901)
unfoldable pub has_isrc_marks : List ℕ → Bool
has_isrc_marks text = slice_index text 2 == 45 && slice_index text 6 == 45 && slice_index text 9 == 45

-- a printed form without its hyphens (ISO 3901)
unfoldable pub without_isrc_marks : List ℕ → List ℕ
without_isrc_marks text = take 2 text ++ take 3 (drop 3 text) ++ take 2 (drop 7 text) ++ drop 10 text

-- the ISRC that a text of twelve characters, or of fifteen in the printed form, is, small letters read as capitals; where it is none, the least refusal that holds (profile)
unfoldable pub isrc_of_text : List ℕ → Result (List ℕ) IdFault
isrc_of_text text =
    if length text == 15 then (if has_isrc_marks text then isrc_of (map capital (without_isrc_marks text)) else Err Character) else isrc_of (map capital text)
