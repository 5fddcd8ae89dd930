-- What a sender calls a work.
use Rattle.std.specs.Prelude.{ℕ, List, Result, Ok, Err, length, if◌then◌else◌, nat_le, ◌&&◌}
use Rattle.std.specs.List.{list_all}
use Rattle.work_ids.specs.Blanks.{without_trailing_blanks, fill}
use Rattle.work_ids.specs.Characters.{is_printable}
use Rattle.work_ids.specs.declared.fault.IdFault.{IdFault}
use Rattle.work_ids.specs.declared.fault.IdFault.TheVariants.{Length, Character}

-- a work number is 1 to 14 bytes of printable ASCII, blanks at its end aside, seen filled with blanks to 14 bytes; where bytes are none, the least refusal that holds (profile)
abbrev pub work_number_of : List ℕ → Result (List ℕ) IdFault
work_number_of bytes =
    let number = without_trailing_blanks bytes in
    if nat_le 1 (length number) && nat_le (length number) 14 then (if list_all is_printable number then Ok (fill 14 number) else Err Character) else Err Length
