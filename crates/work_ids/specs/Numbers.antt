-- The numbers under which transmissions, returns and pools come.
use Rattle.std.specs.Prelude.{ℕ, Bool, List, Option, Some, None, ◌==◌, ◌&&◌, not, nat_le, if◌then◌else◌, slice_index}
use Rattle.std.specs.Str.Parse.{digits_value}
use Rattle.work_ids.specs.Digits.{is_number}

-- a number from 1 to a limit
abbrev pub is_from_one_to : ℕ → ℕ → Bool
is_from_one_to most number = nat_le 1 number && nat_le number most

-- a plain number of a transmission is 1 to 999,999 (profile)
abbrev pub is_plain_number : ℕ → Bool
is_plain_number number = is_from_one_to 999999 number

-- the number of a performance return is 1 to 999,999 (profile)
abbrev pub is_return_number : ℕ → Bool
is_return_number number = is_from_one_to 999999 number

-- the number of a pool is 1 to 99,999 (profile)
abbrev pub is_pool_number : ℕ → Bool
is_pool_number number = is_from_one_to 99999 number

-- a number, where it passes
abbrev pub number_where : (ℕ → Bool) → ℕ → Option ℕ
number_where passes number = if passes number then Some number else None

-- the number that decimal digits without a leading zero spell, where it passes (profile)
abbrev pub number_in_text : (ℕ → Bool) → List ℕ → Option ℕ
number_in_text passes text =
    if is_number text && not (slice_index text 0 == 48) then number_where passes (digits_value 10 text) else None
