-- A sender's way through its segments: which numbers come before one, by the ends that the sender stated. A number is its rank, and a segment its place among all (profile).
use Rattle.std.specs.Prelude.{ℕ, zero, suc, ◌+◌, ◌≡◌, ◌<◌, ◌≤◌, Bool, true, false, ◌&&◌, ◌==◌, List, [], ◌++◌, Option, Some, None, if◌then◌else◌, nat_le}
use Rattle.std.specs.List.{list_all, range_with_len}
use Rattle.work_ids.specs.SegmentEnds.{StatedEnd}
use Rattle.work_ids.specs.Segments.{base_of, greatest_rank, index_of, most_in, segment_of, sequence_of}
use Rattle.work_ids.specs.declared.segment.Segment.TheVariants.{Year}

-- the ranks of a segment's numbers from its first on, so many
abbrev pub numbers_of_segment : ℕ → ℕ → List ℕ
numbers_of_segment segment count = range_with_len (base_of segment + 1) count

-- the end of a segment: its last number, and the place of the segment that comes next
pub record End : Type 0 where
  pub last : ℕ
  pub next : ℕ

-- the ends that a sender stated
abbrev pub StatedEnds : Type 0
StatedEnds = ℕ → Option End

-- ends without a fault: a last number within the segment, and a later segment
pub record AreRight (ends : StatedEnds) : Type 0 where
  pub within : (g : ℕ) (e : End) → ends g ≡ Some e → e.last ≤ most_in g
  pub later : (g : ℕ) (e : End) → ends g ≡ Some e → g < e.next

-- a way: the segment that it has come to, and the numbers that it has passed
pub record Way : Type 0 where
  pub at : ℕ
  pub passed : List ℕ

-- a way that has come to a segment goes on by its end
abbrev pub on_by : Way → ℕ → Option End → Way
on_by way segment None = way
on_by way segment (Some end) =
    if way.at == segment then record { at = end.next; passed = way.passed ++ numbers_of_segment segment end.last } else way

-- the way from the plain segment on, once the ends of the segments below one have been asked in order
abbrev pub way_to : StatedEnds → ℕ → Way
way_to ends zero = record { at = 0; passed = [] }
way_to ends (suc segment) = on_by (way_to ends segment) segment (ends segment)

-- whether the ends lead to a number
abbrev pub leads_to : StatedEnds → ℕ → Bool
leads_to ends number = (way_to ends (segment_of number)).at == segment_of number

-- the numbers up to one: those of the segments passed, and then those of its own
abbrev pub numbers_up_to : StatedEnds → ℕ → List ℕ
numbers_up_to ends number = (way_to ends (segment_of number)).passed ++ numbers_of_segment (segment_of number) (sequence_of number)

-- whether a number is reached: the ends lead there, and all numbers up to it are there
abbrev pub is_reached : (ℕ → Bool) → StatedEnds → ℕ → Bool
is_reached there ends number = leads_to ends number && list_all there (numbers_up_to ends number)

-- the greatest number up to a limit that passes, or 0
abbrev pub greatest_passing : ℕ → (ℕ → Bool) → ℕ
greatest_passing zero passes = 0
greatest_passing (suc n) passes = if passes (suc n) then suc n else greatest_passing n passes

-- the sequence of a number is within the end of its segment, if that has one
abbrev pub IsWithinEnd : StatedEnds → ℕ → Type 0
IsWithinEnd ends number = (e : End) → ends (segment_of number) ≡ Some e → sequence_of number ≤ e.last

-- whether a sequence is within the end of its segment, if that has one
abbrev pub is_up_to_end : Option End → ℕ → Bool
is_up_to_end None sequence = true
is_up_to_end (Some end) sequence = nat_le sequence end.last

-- a number at which no way goes on: the next one is not there, and the end of its segment, if it has one, is not reached
pub record IsGap (there : ℕ → Bool) (ends : StatedEnds) (number : ℕ) : Type 0 where
  pub missing : there (number + 1) ≡ false
  pub before_end : (e : End) → ends (segment_of number) ≡ Some e → sequence_of number < e.last

-- what is kept of a sender are numbers: none is above the last of the last year, and none is a segment's 0
pub record AreNumbers (there : ℕ → Bool) : Type 0 where
  pub most : (n : ℕ) → there n ≡ true → n ≤ greatest_rank
  pub from_one : (n : ℕ) → there n ≡ true → 1 ≤ sequence_of n

-- a number that is kept is not above the end of its segment
abbrev pub AreWithinEnds : (ℕ → Bool) → StatedEnds → Type 0
AreWithinEnds there ends = (n : ℕ) → there n ≡ true → IsWithinEnd ends n

-- each end leads to a year of 00 to 99
abbrev pub LeadToYears : StatedEnds → Type 0
LeadToYears ends = (g : ℕ) (e : End) → ends g ≡ Some e → e.next ≤ 100

-- the end that a sender stated, by the place of the segment that comes next
abbrev pub end_stated : StatedEnd → End
end_stated stated = record { last = stated.last; next = index_of (Year stated.next) }
