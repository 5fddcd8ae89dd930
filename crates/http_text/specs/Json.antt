-- The JSON bodies of answers: objects whose keys ascend, written without white space (RFC 8259; the shapes: profile).
use Rattle.std.specs.Prelude.{ℕ, Bool, List, [], ◌∷◌, ◌==◌, ◌&&◌, not, map, codes, if◌then◌else◌, Option, Some, None}
use Rattle.std.specs.List.{flat_map}
use Rattle.percent_encoding.specs.Percent.{percent_encode_byte}
use Rattle.serde_json.specs.Data.{Data, null, number, unsigned, string, array, object, member, no_members}
use Rattle.serde_json.specs.View.{items_of}
use Rattle.serde_json.specs.Written.{compact_text}
use Rattle.work_ids.specs.Account.{account_text}
use Rattle.work_ids.specs.Blanks.{without_trailing_blanks}
use Rattle.work_ids.specs.Characters.{is_printable}
use Rattle.work_ids.specs.Iswc.{printed}
use Rattle.work_ids.specs.Segments.{segment_at, segment_of, sequence_of}
use Rattle.work_ids.specs.SpelledNumber.{dated_text}
use Rattle.work_ids.specs.declared.segment.Segment.{Segment}
use Rattle.work_ids.specs.declared.segment.Segment.TheVariants.{Plain, Year}
use Rattle.work_ids.specs.declared.account.Account.{Account}
use Rattle.share_rules.specs.declared.holder.Holder.{Holder}
use Rattle.works_core.specs.declared.verdict.Verdict.{Verdict}
use Rattle.works_core.specs.declared.verdict.Verdict.TheVariants.{Accepted, Rejected}
use Rattle.society_core.specs.Requests.{Shown}

-- a whole number
abbrev pub whole_number : ℕ → Data
whole_number value = number (unsigned value)

-- the number of a segment: a plain one is a number, one of a year a string as in "26-0001"
abbrev pub number_json_in : Segment → ℕ → Data
number_json_in Plain sequence = whole_number sequence
number_json_in (Year year) sequence = string (dated_text year sequence)

-- the number with a rank; a front at a year of which nothing is there has number 0000
unfoldable pub number_json : ℕ → Data
number_json rank = number_json_in (segment_at (segment_of rank)) (sequence_of rank)

-- an array of these values
abbrev pub array_of : List Data → Data
array_of values = array (items_of values)

-- how a sender stands: its front, and the numbers that are held, ascending
abbrev pub sender_json : ℕ → List ℕ → Data
sender_json front held =
    object (member (codes "front") (number_json front) (member (codes "held") (array_of (map number_json held)) no_members))

-- a verdict: the work's ordinal and which revision it is, or the fault
abbrev pub verdict_json : Verdict → Data
verdict_json (Accepted ordinal revision) =
    object (member (codes "ordinal") (whole_number ordinal) (member (codes "revision") (whole_number revision) no_members))
verdict_json (Rejected fault) = object (member (codes "fault") (whole_number fault) no_members)

-- the verdicts of a transmission, in the order of its file
abbrev pub verdicts_json : List Verdict → Data
verdicts_json verdicts = array_of (map verdict_json verdicts)

-- what an account has come to
abbrev pub balance_json : Account → ℕ → Data
balance_json account units =
    object (member (codes "account") (string (account_text account)) (member (codes "units") (whole_number units) no_members))

-- a holder of a work
abbrev pub holder_json : Holder → Data
holder_json holder =
    object (member (codes "account") (string (account_text holder.account))
    (member (codes "weight") (whole_number holder.weight) no_members))

-- an ISWC in its printed form, or null
abbrev pub iswc_json : Option (List ℕ) → Data
iswc_json (Some iswc) = string (printed iswc)
iswc_json None = null

-- a byte of a title that is shown as it is: printable ASCII, but for the percent sign
abbrev pub is_plain : ℕ → Bool
is_plain byte = is_printable byte && not (byte == 37)

-- a byte of a title as it is, or as a percent sign and two capital hexadecimal digits
abbrev pub title_byte : ℕ → List ℕ
title_byte byte = if is_plain byte then byte ∷ [] else percent_encode_byte byte

-- a title in printable ASCII
abbrev pub title_text : List ℕ → List ℕ
title_text title = flat_map title_byte title

-- what is shown of a work
abbrev pub work_json : Shown → Data
work_json work =
    object (member (codes "holders") (array_of (map holder_json work.holders))
    (member (codes "isrcs") (array_of (map string work.isrcs))
    (member (codes "iswc") (iswc_json work.iswc)
    (member (codes "number") (string (without_trailing_blanks work.number))
    (member (codes "ordinal") (whole_number work.version.ordinal)
    (member (codes "revision") (whole_number work.version.revision)
    (member (codes "title") (string (title_text work.title))
    (member (codes "transmission") (number_json work.version.transmission) no_members))))))))

-- the text of how a sender stands
unfoldable pub sender_json_text : ℕ → List ℕ → List ℕ
sender_json_text front held = compact_text (sender_json front held)

-- the text of verdicts
unfoldable pub verdicts_json_text : List Verdict → List ℕ
verdicts_json_text verdicts = compact_text (verdicts_json verdicts)

-- the text of a balance
unfoldable pub balance_json_text : Account → ℕ → List ℕ
balance_json_text account units = compact_text (balance_json account units)

-- the text of a work
unfoldable pub work_json_text : Shown → List ℕ
work_json_text work = compact_text (work_json work)
