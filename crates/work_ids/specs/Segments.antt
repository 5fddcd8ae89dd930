-- Segments of a sender's numbers, the plain one and one a year. A number is seen as its rank: a plain number is itself, number k of year y is 1000000 + 10000 * y + k (profile).
use Rattle.std.specs.Prelude.{ℕ, zero, suc, ◌+◌, ◌*◌, ◌-◌, ◌/◌, Bool, ◌&&◌, Option, Some, None, if◌then◌else◌, nat_le, nat_lt}
use Rattle.work_ids.specs.declared.segment.Segment.{Segment}
use Rattle.work_ids.specs.declared.segment.Segment.TheVariants.{Plain, Year}

-- the place of a segment among all, from 0: the plain one, then the years in order
abbrev pub index_of : Segment → ℕ
index_of Plain = 0
index_of (Year year) = year + 1

-- the segment at a place
abbrev pub segment_at : ℕ → Segment
segment_at zero = Plain
segment_at (suc year) = Year year

-- the rank before the first number of the segment at a place (profile)
abbrev pub base_of : ℕ → ℕ
base_of zero = 0
base_of (suc year) = 1000000 + 10000 * year

-- the greatest number within the segment at a place (profile)
abbrev pub most_in : ℕ → ℕ
most_in zero = 999999
most_in (suc year) = 9999

-- the place of the segment that a rank belongs to
abbrev pub segment_of : ℕ → ℕ
segment_of rank = if nat_lt rank 1000000 then 0 else (rank - 1000000) / 10000 + 1

-- the number that a rank has within its segment
abbrev pub sequence_of : ℕ → ℕ
sequence_of rank = rank - base_of (segment_of rank)

-- a number of a segment: 1 to 999,999 in the plain one, 1 to 9,999 in a year of 00 to 99 (profile)
abbrev pub is_in_segment : Segment → ℕ → Bool
is_in_segment segment sequence =
    nat_le (index_of segment) 100 && nat_le 1 sequence && nat_le sequence (most_in (index_of segment))

-- the rank of a number of a segment
abbrev pub rank_in : Segment → ℕ → ℕ
rank_in segment sequence = base_of (index_of segment) + sequence

-- the rank of a number of a segment, where it is one (profile)
abbrev pub transmission_number_in : Segment → ℕ → Option ℕ
transmission_number_in segment sequence = if is_in_segment segment sequence then Some (rank_in segment sequence) else None

-- the rank of a number, plain or of a year (profile)
abbrev pub is_transmission_number : ℕ → Bool
is_transmission_number rank = nat_le 1 (sequence_of rank) && nat_le (segment_of rank) 100

-- the greatest rank of a number, that of number 9,999 of year 99 (profile)
abbrev pub greatest_rank : ℕ
greatest_rank = 1999999
