-- The IPI name number of a party.
use Rattle.std.specs.Prelude.{ℕ, Bool, List, ◌++◌, ◌-◌, Option, Some, None, Result, Ok, Err, length, replicate, if◌then◌else◌, ◌==◌, ◌&&◌, not, nat_le}
use Rattle.std.specs.List.{list_all}
use Rattle.work_ids.specs.Blanks.{trimmed}
use Rattle.work_ids.specs.Characters.{is_digit}
use Rattle.work_ids.specs.declared.fault.IdFault.{IdFault}
use Rattle.work_ids.specs.declared.fault.IdFault.TheVariants.{Length, Character}

-- the digit zero (profile)
abbrev pub is_zero : ℕ → Bool
is_zero byte = byte == 48

-- the digits of an IPI name number that is not none (profile)
abbrev pub is_ipi_name : List ℕ → Bool
is_ipi_name digits = list_all is_digit digits && not (list_all is_zero digits)

-- an IPI name number: eleven digits, not all zeros (CISAC CWR 2.2; not all zeros: profile)
abbrev pub is_ipi_number : List ℕ → Bool
is_ipi_number digits = length digits == 11 && is_ipi_name digits

-- digits filled with zeros on the left to eleven (profile)
abbrev pub eleven_digits : List ℕ → List ℕ
eleven_digits digits = replicate (11 - length digits) 48 ++ digits

-- the number that a field has: up to eleven digits, blanks at both ends aside, seen filled with zeros to eleven; none where they are none or zeros alone; where bytes are none, the least refusal that holds (profile)
abbrev pub ipi_field_of : List ℕ → Result (Option (List ℕ)) IdFault
ipi_field_of field =
    let digits = trimmed field in
    if nat_le (length digits) 11 then (if list_all is_digit digits then (if list_all is_zero digits then Ok None else Ok (Some (eleven_digits digits))) else Err Character) else Err Length
