-- The number that a sender gives a party.
use Rattle.std.specs.Prelude.{ℕ, Bool, true, List, [], ◌∷◌, Result, Ok, Err, length, slice_index, if◌then◌else◌, ◌==◌, ◌&&◌, ◌||◌, not, nat_le}
use Rattle.std.specs.List.{list_all}
use Rattle.work_ids.specs.Blanks.{is_blank_byte, fill, trimmed}
use Rattle.work_ids.specs.Characters.{is_printable}
use Rattle.work_ids.specs.declared.fault.IdFault.{IdFault}
use Rattle.work_ids.specs.declared.fault.IdFault.TheVariants.{Length, Character}

-- bytes that are none, or begin with no blank (profile)
abbrev pub begins_printed : List ℕ → Bool
begins_printed [] = true
begins_printed (first ∷ more) = not (is_blank_byte first)

-- nine bytes that are a party number with blanks behind it: printable ASCII, blank or with no blank in front (profile)
unfoldable pub is_party_number : List ℕ → Bool
is_party_number bytes =
    length bytes == 9 && list_all is_printable bytes && (list_all is_blank_byte bytes || not (is_blank_byte (slice_index bytes 0)))

-- a party number is up to nine bytes of printable ASCII, blanks at both ends aside, seen filled with blanks to nine bytes; it may be blank; where bytes are none, the least refusal that holds (profile)
abbrev pub party_number_of : List ℕ → Result (List ℕ) IdFault
party_number_of field =
    let number = trimmed field in
    if nat_le (length number) 9 then (if list_all is_printable number then Ok (fill 9 number) else Err Character) else Err Length
