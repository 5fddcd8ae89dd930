-- What a sender states of the end of a segment: what the book has of it, and which numbers stand against it.
use Rattle.std.specs.Prelude.{ℕ, Bool, List, [], ◌∷◌, ◌==◌, ◌&&◌, Option, Some, None, if◌then◌else◌, nat_lt}
use Rattle.std.specs.List.{filter}
use Rattle.sender_segments.specs.Ways.{End}
use Rattle.work_ids.specs.SegmentEnds.{StatedEnd, segment_fault, segment_fault_number}
use Rattle.work_ids.specs.declared.segment_end.SegmentFault.{SegmentFault}
use Rattle.work_ids.specs.Segments.{index_of, segment_of, sequence_of}
use Rattle.society_core.specs.Book.{Book, end_at, numbers_of}
use Rattle.society_core.specs.declared.end_fault.EndFault.{EndFault}
use Rattle.society_core.specs.declared.end_fault.EndFault.TheVariants.{Shape, Numbers}
use Rattle.society_core.specs.declared.store.Known.{Known}
use Rattle.society_core.specs.declared.store.Known.TheVariants.{Absent, Same, Other}

-- the number of a fault of an end (profile)
abbrev pub end_fault_number : EndFault → ℕ
end_fault_number Shape = 1
end_fault_number (Numbers fault) = segment_fault_number fault

-- the last number of a segment, where it is stated and a number is above it
abbrev pub last_below : ℕ → Option End → Option ℕ
last_below sequence None = None
last_below sequence (Some end) = if nat_lt end.last sequence then Some end.last else None

-- the last number that a sender stated of a number's segment, where the number is above it (profile)
abbrev pub ended_before : Book → List ℕ → ℕ → Option ℕ
ended_before book sender number = last_below (sequence_of number) (end_at book sender (segment_of number))

-- the last of some numbers
abbrev pub last_number_of : List ℕ → Option ℕ
last_number_of [] = None
last_number_of (n ∷ []) = Some n
last_number_of (n ∷ m ∷ more) = last_number_of (m ∷ more)

-- whether a number is one of a segment, above a last one
abbrev pub is_past : ℕ → ℕ → ℕ → Bool
is_past segment last number = (segment_of number == segment) && nat_lt last (sequence_of number)

-- the greatest number of a sender's transmissions in a segment that is above a last one (profile)
abbrev pub number_past : Book → List ℕ → ℕ → ℕ → Option ℕ
number_past book sender segment last = last_number_of (filter (is_past segment last) (numbers_of book sender))

-- whether two ends say the same
abbrev pub same_end : End → End → Bool
same_end a b = (a.last == b.last) && (a.next == b.next)

-- whether what the book has of a segment is this end
abbrev pub end_known_by : End → Option End → Known
end_known_by end None = Absent
end_known_by end (Some kept) = if same_end kept end then Same else Other

-- whether the book has this end of a segment, another one, or none
abbrev pub end_known_as : Book → List ℕ → ℕ → End → Known
end_known_as book sender segment end = end_known_by end (end_at book sender segment)

-- the fault of what was stated, none where it has none (profile)
abbrev pub fault_stated : StatedEnd → Option SegmentFault
fault_stated stated = segment_fault stated.segment stated.last stated.next

-- the place of the segment that a stated end ends
abbrev pub place_stated : StatedEnd → ℕ
place_stated stated = index_of stated.segment
