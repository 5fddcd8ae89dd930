-- The shape of the end of a segment that is spelled in JSON, and what a statement of it asks (profile).
use Rattle.std.specs.Prelude.{ℕ, List, codes, if◌then◌else◌, Option, Some, None, option_and_then, Result, Ok, Err}
use Rattle.std.specs.Option.{option_zip}
use Rattle.serde_json.specs.Data.{Data}
use Rattle.serde_json.specs.Find.{as_object}
use Rattle.work_ids.specs.SegmentEnds.{StatedEnd, segment_fault, stated_end}
use Rattle.work_ids.specs.declared.segment.Segment.{Segment}
use Rattle.work_ids.specs.declared.segment_end.SegmentFault.{SegmentFault}
use Rattle.society_core.specs.Requests.{Query, States, StatesFaulty}
use Rattle.society_core.specs.declared.end_fault.EndFault.TheVariants.{Shape, Numbers}
use Rattle.http_text.specs.JsonBodies.{has_members, json_of, whole_member}

-- the last number and the next year that an object spells: these are its members, and it has no others
abbrev pub end_numbers_in : Data → Option (ℕ × ℕ)
end_numbers_in value =
    if has_members 2 (as_object value)
    then option_zip (whole_member (codes "last") value) (whole_member (codes "next") value)
    else None

-- what an end that was judged asks
abbrev pub state_judged : List ℕ → Result StatedEnd SegmentFault → Query
state_judged sender (Ok end) = States sender end
state_judged sender (Err fault) = StatesFaulty (Numbers fault)

-- what numbers ask of a sender's segment: another shape is a fault
abbrev pub state_asked : List ℕ → Segment → Option (ℕ × ℕ) → Query
state_asked sender segment (Some numbers) =
    state_judged sender (stated_end segment numbers.0 numbers.1 (segment_fault segment numbers.0 numbers.1))
state_asked sender segment None = StatesFaulty Shape

-- what the put of a segment asks by its body
unfoldable pub state_query : List ℕ → Segment → List ℕ → Query
state_query sender segment body = state_asked sender segment (option_and_then end_numbers_in (json_of body))
