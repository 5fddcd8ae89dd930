-- Where a sender says that a segment of its numbers ends, and which year comes next.
use Rattle.std.specs.Prelude.{ℕ, Bool, ◌||◌, not, Option, Some, None, Result, Ok, Err, if◌then◌else◌, nat_lt}
use Rattle.work_ids.specs.Segments.{index_of, most_in}
use Rattle.work_ids.specs.declared.segment.Segment.{Segment}
use Rattle.work_ids.specs.declared.segment.Segment.TheVariants.{Year}
use Rattle.work_ids.specs.declared.segment_end.SegmentFault.{SegmentFault}
use Rattle.work_ids.specs.declared.segment_end.SegmentFault.TheVariants.{OutOfRange, NotLater}

-- the end of a segment: its last number, and the year that comes next
pub record StatedEnd : Type 0 where
  pub segment : Segment
  pub last : ℕ
  pub next : ℕ

-- a last number over the greatest of the segment, or a next year over 99 (profile)
abbrev pub is_end_out_of_range : Segment → ℕ → ℕ → Bool
is_end_out_of_range segment last next = nat_lt (most_in (index_of segment)) last || nat_lt 99 next

-- a next year that does not come after the segment (profile)
abbrev pub is_next_not_later : Segment → ℕ → Bool
is_next_not_later segment next = not (nat_lt (index_of segment) (index_of (Year next)))

-- the number of a fault (profile)
abbrev pub segment_fault_number : SegmentFault → ℕ
segment_fault_number OutOfRange = 2
segment_fault_number NotLater = 3

-- the fault of an end with the least number, none where it has none (profile)
abbrev pub segment_fault : Segment → ℕ → ℕ → Option SegmentFault
segment_fault segment last next =
    if is_end_out_of_range segment last next then Some OutOfRange else (if is_next_not_later segment next then Some NotLater else None)

-- the end that these numbers make, or their fault
abbrev pub stated_end : Segment → ℕ → ℕ → Option SegmentFault → Result StatedEnd SegmentFault
stated_end segment last next None = Ok (record { segment = segment; last = last; next = next })
stated_end segment last next (Some fault) = Err fault
