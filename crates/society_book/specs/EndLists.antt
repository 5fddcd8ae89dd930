-- Lists of the ends of a sender's segments, as they are read (representation).
use Rattle.std.specs.Prelude.{ℕ, ◌+◌, ◌==◌, Bool, List, Option, Some, None, find, if◌then◌else◌, is_none, nat_le, option_map, ◌≡◌}
use Rattle.sqlite_value.specs.Order.{Row}
use Rattle.sender_segments.specs.Ways.{End, StatedEnds, end_stated}
use Rattle.society_core.specs.Ends.{fault_stated, place_stated}
use Rattle.society_book.specs.BookRows.{end_of}
use Rattle.society_book.specs.Columns.{segment_place_at}
use Rattle.work_ids.specs.SegmentEnds.{StatedEnd}
use Rattle.work_ids.specs.Segments.{base_of}
use Rattle.sqlite_trees.specs.Tree.{Trees}
use Rattle.society_core.specs.Book.{Book, ends_of}
use Rattle.society_book.specs.Sources.{HasEnds}

-- the ends that a list has, each by the place of its segment; the first one where a segment has more
abbrev pub end_listed : List StatedEnd → StatedEnds
end_listed ends = λ segment. option_map end_stated (find (λ end. place_stated end == segment) ends)

-- whether an end has no fault
abbrev pub is_faultless : StatedEnd → Bool
is_faultless end = is_none (fault_stated end)

-- the end of the segment at a place that some rows show, the first one where they show more
abbrev pub end_shown : List Row → StatedEnds
end_shown rows = λ segment. option_map end_of (find (λ row. segment_place_at 1 row == segment) rows)

-- the first rank behind an end, where a number is not below it: the end of a segment with this first rank
abbrev pub behind_end : ℕ → ℕ → Option End → Option ℕ
behind_end first reached None = None
behind_end first reached (Some end) = if nat_le (first + end.last) reached then Some (base_of end.next) else None

-- the first rank behind an end, where a front is not below that
abbrev pub passed_to : ℕ → Option End → Option ℕ
passed_to front None = None
passed_to front (Some end) = if nat_le (base_of end.next) front then Some (base_of end.next) else None

-- these are the ends that a sender stated, in every book with those of the database
abbrev pub ReadsEnds : List ℕ → Trees → List StatedEnd → Type 0
ReadsEnds sender db ends = (book : Book) → HasEnds book db → end_listed ends ≡ ends_of book sender
