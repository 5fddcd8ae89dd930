-- The numbers of a row: plays and seconds.
use Rattle.std.specs.Prelude.{ℕ, Bool, List, Option, Some, None, if◌then◌else◌, length, nat_le}
use Rattle.work_ids.specs.Digits.{decimal_value}
use Rattle.work_ids.specs.Numbers.{is_from_one_to, number_where}

-- the number that 1 to so many decimal digits spell
abbrev pub number_of_width : ℕ → List ℕ → Option ℕ
number_of_width width field = if nat_le (length field) width then decimal_value field else None

-- a number that is there, where it passes
abbrev pub passing : (ℕ → Bool) → Option ℕ → Option ℕ
passing passes None = None
passing passes (Some number) = number_where passes number

-- plays are 1 to 1,000,000 (profile)
abbrev pub are_plays : ℕ → Bool
are_plays number = is_from_one_to 1000000 number

-- seconds are 1 to 10,000 (profile)
abbrev pub are_seconds : ℕ → Bool
are_seconds number = is_from_one_to 10000 number

-- plays in a field: 1 to 7 digits (profile)
abbrev pub plays_of : List ℕ → Option ℕ
plays_of field = passing are_plays (number_of_width 7 field)

-- seconds in a field: 1 to 5 digits (profile)
abbrev pub seconds_of : List ℕ → Option ℕ
seconds_of field = passing are_seconds (number_of_width 5 field)
