-- Lemmas on ends of segments that are spelled in JSON.
use Rattle.std.proofs.Common.{◌≢◌, ℕ, List, Option, Some, None, Result, Ok, Err}
use Rattle.std.specs.Prelude.{option_and_then}
use Rattle.work_ids.specs.SegmentEnds.{StatedEnd, segment_fault, stated_end}
use Rattle.work_ids.specs.declared.segment.Segment.{Segment}
use Rattle.work_ids.specs.declared.segment_end.SegmentFault.{SegmentFault}
use Rattle.society_core.specs.Requests.{AsksElsewhere}
use Rattle.http_text.specs.EndText.{end_numbers_in, state_asked, state_judged, state_query}
use Rattle.http_text.specs.JsonBodies.{json_of}

-- ---- the put of a segment asks something

judged_some : (sender : List ℕ) (judged : Result StatedEnd SegmentFault) → state_judged sender judged ≢ AsksElsewhere
judged_some sender (Ok end) = λ e. cc
judged_some sender (Err fault) = λ e. cc

asked_some : (sender : List ℕ) (segment : Segment) (numbers : Option (ℕ × ℕ)) → state_asked sender segment numbers ≢ AsksElsewhere
asked_some sender segment (Some numbers) = judged_some sender (stated_end segment numbers.0 numbers.1 (segment_fault segment numbers.0 numbers.1))
asked_some sender segment None = λ e. cc

pub state_some : (sender : List ℕ) (segment : Segment) (body : List ℕ) → state_query sender segment body ≢ AsksElsewhere
unfolding state_query
state_some sender segment body = asked_some sender segment (option_and_then end_numbers_in (json_of body))
