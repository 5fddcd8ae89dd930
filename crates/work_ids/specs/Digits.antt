-- Numbers as decimal digits.
use Rattle.std.specs.Prelude.{ℕ, zero, suc, ◌+◌, ◌/◌, ◌%◌, Bool, List, [], ◌∷◌, ◌++◌, ◌&&◌, Option, Some, None, length, nat_lt, if◌then◌else◌}
use Rattle.std.specs.List.{list_all}
use Rattle.std.specs.Str.Parse.{digits_value}
use Rattle.work_ids.specs.Characters.{is_digit}

-- one or more of 0-9
abbrev pub is_number : List ℕ → Bool
is_number bytes = nat_lt 0 (length bytes) && list_all is_digit bytes

-- the decimal value of bytes that are digits alone, at least one
unfoldable pub decimal_value : List ℕ → Option ℕ
decimal_value bytes = if is_number bytes then Some (digits_value 10 bytes) else None

-- the last decimal digits of a number, so many of them, with zeros in front (CISAC CWR 2.2)
unfoldable pub last_digits : ℕ → ℕ → List ℕ
last_digits zero number = []
last_digits (suc width) number = last_digits width (number / 10) ++ (48 + number % 10) ∷ []
