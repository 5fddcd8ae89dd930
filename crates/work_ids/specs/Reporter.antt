-- Who sends performance returns.
use Rattle.std.specs.Prelude.{ℕ, List, Result, Ok, Err, length, if◌then◌else◌, nat_le, ◌&&◌}
use Rattle.std.specs.List.{list_all}
use Rattle.work_ids.specs.Blanks.{fill}
use Rattle.work_ids.specs.Characters.{is_capital_or_digit}
use Rattle.work_ids.specs.declared.fault.IdFault.{IdFault}
use Rattle.work_ids.specs.declared.fault.IdFault.TheVariants.{Length, Character}

-- a reporter is 1 to 20 of A-Z and 0-9, seen filled with blanks to 20 bytes; where bytes are none, the least refusal that holds (profile)
abbrev pub reporter_of : List ℕ → Result (List ℕ) IdFault
reporter_of bytes =
    if nat_le 1 (length bytes) && nat_le (length bytes) 20 then (if list_all is_capital_or_digit bytes then Ok (fill 20 bytes) else Err Character) else Err Length
