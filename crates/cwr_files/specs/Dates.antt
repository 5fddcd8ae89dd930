-- Dates and times of a transmission header.
use Rattle.std.specs.Prelude.{ℕ, ◌/◌, ◌%◌, Bool, false, ◌&&◌, List, Option, Some, None, nat_lt, nat_le, pos}
use Rattle.jiff.specs.Words.{days_in_month}
use Rattle.work_ids.specs.Digits.{decimal_value}

-- whether eight digits, year, month and day, are a date of the calendar with a year from 1 (CISAC CWR 2.2, YYYYMMDD; the year: profile)
unfoldable pub is_real_date : ℕ → Bool
is_real_date digits =
    nat_lt digits 100000000 && nat_le 1 (digits / 10000)
    && (nat_le 1 (digits / 100 % 100) && nat_le (digits / 100 % 100) 12)
    && (nat_le 1 (digits % 100) && nat_le (digits % 100) (days_in_month (pos (digits / 10000)) (digits / 100 % 100)))

-- whether six digits are hours to 23, minutes and seconds to 59 (CISAC CWR 2.2, HHMMSS)
unfoldable pub is_real_time : ℕ → Bool
is_real_time digits =
    nat_le (digits / 10000) 23 && nat_le (digits / 100 % 100) 59 && nat_le (digits % 100) 59

-- whether there is a number that passes
abbrev pub passes : (ℕ → Bool) → Option ℕ → Bool
passes test None = false
passes test (Some number) = test number

-- whether a field is a date, in digits alone
unfoldable pub is_date : List ℕ → Bool
is_date bytes = passes is_real_date (decimal_value bytes)

-- whether a field is a time of day, in digits alone
unfoldable pub is_time : List ℕ → Bool
is_time bytes = passes is_real_time (decimal_value bytes)
