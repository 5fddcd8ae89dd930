-- The check digit of an ISWC.
use Rattle.std.specs.Prelude.{ℕ, Bool, List, ◌+◌, ◌-◌, ◌*◌, ◌%◌, ◌&&◌, ◌==◌, map, slice_index}
use Rattle.std.specs.List.{list_all, range_with_len, sum}
use Rattle.work_ids.specs.Characters.{is_digit}

-- the value of an ASCII digit (ISO 15707)
abbrev pub digit_value : ℕ → ℕ
digit_value byte = byte - 48

-- 1 for the letter T, and each of nine digits times its place, from 1 to 9 (ISO 15707)
unfoldable pub weighted_sum : List ℕ → ℕ
weighted_sum digits = 1 + sum (map (λ place. place * digit_value (slice_index digits (place - 1))) (range_with_len 1 9))

-- of nine digits: the digit that makes the weighted sum a multiple of ten (ISO 15707)
unfoldable pub is_check_digit : List ℕ → ℕ → Bool
is_check_digit digits check =
    list_all is_digit digits && is_digit check && ((weighted_sum digits + digit_value check) % 10 == 0)
