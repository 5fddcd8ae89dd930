-- Who sends transmissions.
use Rattle.std.specs.Prelude.{ℕ, Bool, List, Result, Ok, Err, length, if◌then◌else◌, ◌==◌, ◌&&◌}
use Rattle.std.specs.List.{list_all}
use Rattle.work_ids.specs.Characters.{is_capital_or_digit}
use Rattle.work_ids.specs.declared.fault.IdFault.{IdFault}
use Rattle.work_ids.specs.declared.fault.IdFault.TheVariants.{Length, Character}

-- a sender key: eleven of A-Z and 0-9 (CISAC CWR 2.2; the characters: profile)
abbrev pub is_sender_key : List ℕ → Bool
is_sender_key bytes = length bytes == 11 && list_all is_capital_or_digit bytes

-- a sender key is eleven of A-Z and 0-9; where bytes are none, the least refusal that holds (profile)
abbrev pub sender_key_of : List ℕ → Result (List ℕ) IdFault
sender_key_of bytes =
    if length bytes == 11 then (if list_all is_capital_or_digit bytes then Ok bytes else Err Character) else Err Length
